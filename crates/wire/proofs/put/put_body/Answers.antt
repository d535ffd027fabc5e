use Rattle.text.specs.Text.{ascii}
use Rattle.text.proofs.Overlays.{◌then◌}
use Rattle.wire.specs.Grammar.{body_text}
use Rattle.wire.proofs.put.put_body.Goals as goal

pub returns : goal.returns
unfolding ascii body_text
returns c =
    c.put_word.ensures then c.put_data.ensures then c.put_word-2.ensures then c.put_piggyback.ensures then c.put.ensures

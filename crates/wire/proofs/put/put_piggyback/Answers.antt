use Rattle.std.proofs.Common.{arith}
use Rattle.text.specs.Text.{ascii}
use Rattle.text.proofs.Overlays.{◌then◌, within}
use Rattle.wire.specs.Grammar.{array, data_text, piggyback_text}
use Rattle.wire.proofs.put.put_piggyback.Goals as goal

pub returns-in-None : goal.returns-in-None
unfolding ascii piggyback_text data_text array
returns-in-None c = rw c.in-None.is (within c.put_word.ensures (omega arith))

pub returns-in-Some : goal.returns-in-Some
unfolding ascii piggyback_text
returns-in-Some c = rw c.in-Some.is (c.put_small.ensures then c.put_word-in-Some.ensures then c.put_data.ensures)

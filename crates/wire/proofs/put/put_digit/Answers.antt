use Rattle.text.specs.Text.{ascii}
use Rattle.text.proofs.Overlays.{◌then◌}
use Rattle.wire.proofs.put.put_digit.Goals as goal

pub returns : goal.returns
unfolding ascii
returns c = c.put.ensures then c.put_small.ensures

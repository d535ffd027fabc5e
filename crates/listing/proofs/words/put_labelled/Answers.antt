use Rattle.std.proofs.Common.{arith}
use Rattle.text.proofs.Overlays.{◌then◌, within}
use Rattle.listing.proofs.words.put_labelled.Goals as goal

pub returns : goal.returns
returns c = within (c.put_word.ensures then c.put_number.ensures) (omega arith)

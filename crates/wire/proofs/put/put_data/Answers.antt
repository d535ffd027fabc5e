use Rattle.std.proofs.Common.{arith}
use Rattle.text.specs.Text.{ascii}
use Rattle.text.proofs.Overlays.{◌then◌, within}
use Rattle.wire.specs.Grammar.{array, data_text}
use Rattle.wire.proofs.Arrays.{data_text_lem}
use Rattle.wire.proofs.put.put_data.Goals as goal

pub returns-in-None : goal.returns-in-None
unfolding ascii data_text array
returns-in-None c = rw c.in-None.is (within c.put_word.ensures (omega arith))

pub returns-in-Some : goal.returns-in-Some
unfolding ascii
returns-in-Some c = rw (c.in-Some.is, data_text_lem c.in-Some.t) (c.put_word-in-Some.ensures then c.put_digits.ensures then c.put.ensures)

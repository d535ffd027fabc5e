use Rattle.std.proofs.Common.{arith}
use Rattle.text.proofs.Overlays.{◌then◌, within}
use Rattle.wire.proofs.Arrays.{digits_one, digits_two}
use Rattle.wire.proofs.put.put_digits.Goals as goal

pub returns-then-t-lt10 : goal.returns-then-t-lt10
returns-then-t-lt10 c = rw (digits_one c.args.t c.if-t-lt10.true) (within c.put_digit.ensures (omega arith))

pub returns-else-t-lt10 : goal.returns-else-t-lt10
returns-else-t-lt10 c =
    rw (digits_two c.args.t c.if-t-lt10.false c.requires.0) (c.put_digit-else-t-lt10.ensures then c.put_digit-else-t-lt10-2.ensures)

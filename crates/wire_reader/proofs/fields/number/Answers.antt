use Rattle.std.proofs.Common.{arith}
use Rattle.wire_reader.proofs.Fronts.{number_none, number_digit, second_none, second_more, second_zero}
use Rattle.wire_reader.proofs.fields.number.Goals as goal

pub returns-in_err-first : goal.returns-in_err-first
returns-in_err-first c = rw (c.from_residual.ensures, number_none _ _ c.in_err-first.ensures.reads)

pub returns-then-first-eq0 : goal.returns-then-first-eq0
returns-then-first-eq0 c =
    rw (c.below.ensures, number_digit c.args.bound _ _ _ c.in_ok-first.ensures.reads, c.if-first-eq0.true, second_zero)

pub returns-in-None : goal.returns-in-None
returns-in-None c =
    rw (c.below-in-None.ensures, number_digit c.args.bound _ _ _ c.in_ok-first.ensures.reads, second_none c.args.bound _ _ c.in-None.ensures.reads)

pub returns-in-Some : goal.returns-in-Some
returns-in-Some c =
    rw (c.below-in-Some.ensures, number_digit c.args.bound _ _ _ c.in_ok-first.ensures.reads, second_more c.args.bound c.in_ok-first.first _ _ _ (omega arith) c.in-Some.ensures.reads)

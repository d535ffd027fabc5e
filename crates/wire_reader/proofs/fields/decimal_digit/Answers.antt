use Rattle.std.proofs.Common.{rules, ◌∙◌}
use Rattle.wire_reader.specs.Reader.{decimal_digit}
use Rattle.wire_reader.proofs.Fronts.{digit_shown, digit_other, seen_found}
use Rattle.wire_reader.proofs.fields.decimal_digit.Goals as goal

pub returns-in_err-byte-clause-reads : goal.returns-in_err-byte-clause-reads
unfolding decimal_digit
returns-in_err-byte-clause-reads c = search rules

pub returns-in_err-d-clause-reads : goal.returns-in_err-d-clause-reads
returns-in_err-d-clause-reads c = rw c.from_residual-in_err-d.ensures (digit_other _ _ _ c.in_ok-byte.ensures.cases.0 c.in_err-d.ensures)

pub returns-clause-reads : goal.returns-clause-reads
returns-clause-reads c =
    rw c.then_some.ensures (seen_found _ _ _ ∙ digit_shown _ _ _ c.in_ok-byte.ensures.cases.0 c.in_ok-d.ensures)

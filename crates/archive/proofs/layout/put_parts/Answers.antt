use Rattle.std.proofs.Common.{ℕ, List, ◌-◌, ◌≡◌, ◌∙◌, arith}
use mathlib.Core.Path.{ap₂}
use Rattle.std.specs.Borrow.{Bor}
use Rattle.archive.specs.Layout.{section_count, offset_in, length_in, parts_told}
use Rattle.archive.proofs.Orders.{number_here, parts_more, kept_as}
use Rattle.config.proofs.Unless.{goes_up}
use Rattle.archive.proofs.layout.put_parts.Goals as goal

pub returns-in_err-filed : goal.returns-in_err-filed
unfolding parts_told
returns-in_err-filed c =
    let told = c.in_err-filed.ensures in
    rw (goes_up c.from_residual.result c.from_residual.ensures.1, told.0, told.1)

pub loop-i-preserved : goal.loop-i-preserved
loop-i-preserved c =
    let here = c.in_ok-filed.ensures in
    let number = number_here _ _ c.loop-i-test.true in
    rw (
      c.offset_of.ensures ∙ ap₂ (λ (f : Bor (List ℕ)) (n : ℕ). offset_in f.now n) here number,
      c.length_of.ensures ∙ ap₂ (λ (f : Bor (List ℕ)) (n : ℕ). length_in f.now n) here number,
    )
    (parts_more _ c.loop-i.parts c.loop-i.i section_count (omega arith) ∙ c.loop-i.invariant)

pub returns : goal.returns
unfolding parts_told
returns c =
    let none : section_count - c.loop-i.i ≡ 0 = omega arith in
    rw (kept_as c.in_ok-filed.filed c.in_ok-filed.ensures, rw none at c.loop-i.invariant)

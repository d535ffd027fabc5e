use Rattle.std.proofs.Common.{ℕ, List, sym, ◌∙◌}
use mathlib.Core.Path.{ap₂}
use mathlib.Core.Bool.{and-false}
use borrow.Author.Tests.{le-ltb}
use Rattle.std.specs.Borrow.{Bor}
use Rattle.archive.specs.Layout.{section_count, handed_out}
use Rattle.archive.proofs.Orders.{number_low, handed_section}
use Rattle.archive.proofs.layout.section_of.Goals as goal

pub returns-in_default : goal.returns-in_default
unfolding handed_out
returns-in_default c = rw (le-ltb c.args.i section_count c.in_default.ensures, and-false)

pub returns-in-Ok : goal.returns-in-Ok
returns-in-Ok c =
    let s = c.in-Some.section in
    let filed = c.in-Ok.filed in
    let here = c.in-Ok.ensures in
    c.part.ensures
    ∙ sym (handed_section filed.bytes.now _ filed.kept (number_low s))
    ∙ ap₂ (λ (f : Bor (List ℕ)) (n : ℕ). handed_out f.now n) here c.in-Some.ensures

pub returns-in-Err : goal.returns-in-Err
unfolding handed_out
returns-in-Err c = let told = c.in-Err.ensures in rw told.0

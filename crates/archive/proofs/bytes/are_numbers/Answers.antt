use Rattle.std.proofs.Common.{sym, ◌∙◌, arith}
use borrow.Author.Tests.{eq-eqb, ne_eqb}
use Rattle.archive.proofs.ByteLaws.{length_numbers, same_sizes, numbers_left_lem, no_numbers_left}
use Rattle.archive.proofs.bytes.are_numbers.Goals as goal

pub returns-then-bytes-numbers : goal.returns-then-bytes-numbers
returns-then-bytes-numbers c = sym (same_sizes _ _ (λ e. omega (arith, e, length_numbers c.args.numbers.now)))

pub returns-then-nth_number-number : goal.returns-then-nth_number-number
returns-then-nth_number-number c =
    let a = c.args in
    let i = c.loop-i.i in
    sym
    (c.loop-i.invariant
    ∙ numbers_left_lem a.bytes.now a.numbers.now i c.loop-i-test.true (omega arith) (λ k. omega (arith, c.type_inv.bytes k)) (omega (arith, c.type_inv.numbers i))
    ∙ rw (← c.nth_number.ensures, ne_eqb _ _ c.if-nth_number-number.true))

pub loop-i-preserved : goal.loop-i-preserved
loop-i-preserved c =
    let a = c.args in
    let i = c.loop-i.i in
    c.loop-i.invariant
    ∙ numbers_left_lem a.bytes.now a.numbers.now i c.loop-i-test.true (omega arith) (λ k. omega (arith, c.type_inv.bytes k)) (omega (arith, c.type_inv.numbers i))
    ∙ rw (← c.nth_number.ensures, eq-eqb _ _ c.if-nth_number-number.false)

pub returns : goal.returns
returns c =
    let a = c.args in
    sym (c.loop-i.invariant ∙ no_numbers_left a.bytes.now a.numbers.now c.loop-i.i (omega arith) c.loop-i-test.false)

use Rattle.std.proofs.Common.{ℕ, ◌≡◌, ◌+◌, ◌^◌, ◌<◌, sym, ap, ◌∙◌, arith}
use borrow.Author.Tests.{eq-eqb, eqb-true}
use Rattle.archive.specs.Bytes.{byte_values, number_in}
use Rattle.archive.specs.Layout.{section_count, offset_size, pair_at, offset_in, length_in}
use Rattle.archive.proofs.ByteLaws.{number_in_lt, same_tests}
use Rattle.archive.proofs.Orders.{number_here, one_more, start_of, ordered, in_order_lem, out_of_order}
use Rattle.archive.proofs.layout.in_order.Goals as goal

pub returns-then-offset_in-end : goal.returns-then-offset_in-end
returns-then-offset_in-end c =
    let l = c.loop-section in
    let begins = c.offset_in.ensures ∙ ap (offset_in c.args.file.now) (number_here _ _ c.loop-section-test.true) in
    sym (out_of_order _ l.section-index c.loop-section-test.true (λ e. c.if-offset_in-end.true (begins ∙ e ∙ sym l.invariant.0)))

pub overflow_add-end : goal.overflow_add-end
overflow_add-end c =
    let file = c.args.file.now in
    let here = pair_at c.loop-section.section-index in
    let small : (at : ℕ) → number_in offset_size at file < byte_values ^ offset_size =
    λ at. number_in_lt file (λ k. omega (arith, c.type_inv.file k)) offset_size at offset_size (omega arith) in
    let begins = c.offset_in.ensures ∙ ap (offset_in file) (number_here _ _ c.loop-section-test.true) in
    let long = c.length_in-end.ensures ∙ ap (length_in file) (number_here _ _ c.loop-section-test.true) in
    omega (arith, begins, long, c.if-offset_in-end.false, small here, small (here + offset_size))

pub loop-section-preserved : goal.loop-section-preserved
loop-section-preserved c =
    let file = c.args.file.now in
    let l = c.loop-section in
    let begins = c.offset_in.ensures ∙ ap (offset_in file) (number_here _ _ c.loop-section-test.true) in
    let long = c.length_in-end.ensures ∙ ap (length_in file) (number_here _ _ c.loop-section-test.true) in
    one_more file l.section-index l.invariant (sym begins ∙ c.if-offset_in-end.false) long

pub returns : goal.returns
returns c =
    let file = c.args.file.now in
    let l = c.loop-section in
    let all : l.section-index ≡ section_count = omega arith in
    let last : l.end ≡ start_of file section_count = rw all at l.invariant.0 in
    same_tests _ _
    (λ e. in_order_lem file (record { starts = rw all at l.invariant.1; ends = sym (eqb-true _ _ e) ∙ last }))
    (λ e. eq-eqb _ _ (last ∙ sym (ordered file e).ends))

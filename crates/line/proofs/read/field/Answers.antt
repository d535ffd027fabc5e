use Rattle.std.proofs.Common.{rules, tests, ◌∙◌, ap, eqb, refl}
use Rattle.std.proofs.lemmas.Iterator.Consumers.{nth_from_yields_List}
use Rattle.std.proofs.lemmas.Iterator.Splits.{YieldsList-from_slice_split}
use Rattle.line.proofs.Fields.{part_at}
use Rattle.line.proofs.read.field.Goals as goal

pub returns : goal.returns
returns c =
    let line = c.args.line.now in
    ap (λ s. s.now) c.unwrap_or.ensures
    ∙ part_at (λ s. s.now) c.nth.result _ line c.args.k
    (nth_from_yields_List c.nth.result _ c.args.k c.nth.ensures.ran
    (YieldsList-from_slice_split _ (λ b. eqb b 32) line c.split.ensures.rest c.split.ensures.done c.split.ensures.closure (λ x b q k. search (rules, tests))))
    refl

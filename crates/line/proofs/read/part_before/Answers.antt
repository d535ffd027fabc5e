use Rattle.std.proofs.Common.{rules, tests, ◌∙◌, ap, eqb}
use Rattle.std.proofs.lemmas.Iterator.Splits.{YieldsList-from_slice_split}
use Rattle.line.proofs.Fields.{part_given}
use Rattle.line.proofs.read.part_before.Goals as goal

pub returns : goal.returns
returns c =
    let s = c.args.s.now in
    ap (λ s. s.now) c.unwrap_or.ensures
    ∙ part_given _ (λ s. s.now) c.args.stop s c.next.result _ c.next.ensures.steps
    (YieldsList-from_slice_split _ (λ b. eqb b c.args.stop) s c.split.ensures.rest c.split.ensures.done c.split.ensures.closure (λ x b q k. search (rules, tests)))

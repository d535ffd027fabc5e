use Rattle.std.proofs.Common.{rules, tests, ℕ, ◌+◌, ◌^◌, List, arith, eqb, length}
use Rattle.std.proofs.lemmas.Iterator.{YieldsList-from_map, YieldsList-from_take}
use Rattle.std.proofs.lemmas.Iterator.Consumers.{fits_by_from_yields_list, sum_by_from_yields_List}
use Rattle.std.proofs.lemmas.Iterator.Splits.{YieldsList-from_slice_split}
use Rattle.line.proofs.Fields.{front_short, front_start, in_front}
use Rattle.line.proofs.read.field_start.Goals as goal

pub sum-before-requires-clause-fits : goal.sum-before-requires-clause-fits
sum-before-requires-clause-fits c =
    let line = c.args.line.now in
    fits_by_from_yields_list (λ (f : List ℕ). length f + 1) (in_front line c.args.k) c.map.result (2 ^ 64)
    (YieldsList-from_map {v = λ x. x.now} _ (λ (f : List ℕ). length f + 1)
    (YieldsList-from_take c.args.k
    (YieldsList-from_slice_split _ (λ b. eqb b 32) line (cc) (cc) (cc) (λ x b q k. search (rules, tests))) (cc))
    c.map.ensures.closure (λ x r q k. search (rules, tests)))
    (omega (arith, front_short line c.args.k))

pub returns : goal.returns
returns c =
    let line = c.args.line.now in
    front_start line c.args.k c.min.ensures
    (sum_by_from_yields_List (λ (f : List ℕ). length f + 1) (in_front line c.args.k) c.map.result _ c.sum-before.ensures.ran
    (YieldsList-from_map {v = λ x. x.now} _ (λ (f : List ℕ). length f + 1)
    (YieldsList-from_take c.args.k
    (YieldsList-from_slice_split _ (λ b. eqb b 32) line (cc) (cc) (cc) (λ x b q k. search (rules, tests))) (cc))
    c.map.ensures.closure (λ x r q k. search (rules, tests))))

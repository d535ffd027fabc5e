-- The totals into the first places, and two numbers behind them, are all of them into the first places.
use Rattle.std.proofs.Common.{◌++◌, ◌∙◌, sym, ap, arith, drop, slice_set, length, List, ℕ}
use Rattle.std.proofs.lemmas.List.{length-take-le}
use Rattle.std.proofs.lemmas.List.Edits.{sets-eq}
use Rattle.metrics.specs.Totals.{totals}
use Rattle.marshal.proofs.convert.write_summary.Goals as goal

pub copy_from_slice-requires : goal.copy_from_slice-requires
copy_from_slice-requires c = length-take-le 15 c.args.out.now (omega (arith, c.requires)) ∙ sym (ap (λ (l : List ℕ). length l) c.totals_of.ensures)

pub returns : goal.returns
returns c =
    ap
    (λ (l : List ℕ). slice_set (slice_set l 15 c.args.s.records) 16 c.args.s.snapshots)
    (ap (λ (l : List ℕ). l ++ drop 15 c.args.out.now) (c.copy_from_slice.ensures.after ∙ c.totals_of.ensures)
    ∙ sym (sets-eq (totals c.args.s) c.args.out.now 0 (omega (arith, c.requires))))

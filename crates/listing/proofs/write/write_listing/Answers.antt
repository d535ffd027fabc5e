use Rattle.std.proofs.Common.{ℕ, min, List, ap, ◌∙◌, refl, rules}
use Rattle.config.specs.Limits.{max_listed}
use Rattle.listing.specs.declared.write.Lines.{Lines}
use Rattle.listing.specs.Listing.{line_of, listing}
use Rattle.text.proofs.Overlays.{◌then◌, whole, each_as}
use Rattle.listing.proofs.write.write_listing.Goals as goal

pub returns : goal.returns
unfolding listing
returns c =
    let line : Lines → ℕ → List ℕ = λ x. line_of x c.args.records.now c.args.snapshots.now c.args.logs.now in
    let totals = c.put_run_line.ensures then c.put_radio_line.ensures then c.put_link_line.ensures in
    whole
    (totals then each_as (line Lines.Proposals) c.put_lines.ensures c.min-recorded.ensures
    then each_as (line Lines.Snapshots) c.put_lines-2.ensures (c.min-stored.ensures ∙ ap (λ (k : ℕ). min k max_listed) c.min.ensures)
    then each_as (line Lines.Logs) c.put_lines-3.ensures c.min-nodes.ensures) refl (search rules)

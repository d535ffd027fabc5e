use Rattle.text.specs.Text.{ascii}
use Rattle.listing.specs.Listing.{labelled, line_with, snapshot_line}
use Rattle.text.proofs.Overlays.{◌then◌}
use Rattle.listing.proofs.write.put_snapshot_line.Goals as goal

pub returns : goal.returns
unfolding snapshot_line line_with labelled ascii
returns c =
    let all = c.put_labelled.ensures then (c.put_spaced.ensures then (c.put_spaced-2.ensures
    then (c.put_spaced-3.ensures then (c.put_spaced-4.ensures then c.put.ensures)))) in
    rw (
      c.number_at-slot.ensures,
      c.number_at-progress.ensures,
      c.number_at-listening.ensures,
      c.number_at-flooding.ensures,
      c.number_at-sleeping.ensures,
    ) at all

use Rattle.text.specs.Text.{ascii}
use Rattle.listing.specs.Listing.{labelled, line_with, run_line}
use Rattle.text.proofs.Overlays.{◌then◌}
use Rattle.listing.proofs.write.put_run_line.Goals as goal

pub returns : goal.returns
unfolding run_line line_with labelled ascii
returns c =
    c.put_labelled.ensures then (c.put_labelled-2.ensures then (c.put_labelled-3.ensures
    then (c.put_labelled-4.ensures then c.put.ensures)))

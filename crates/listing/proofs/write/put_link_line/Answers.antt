use Rattle.text.specs.Text.{ascii}
use Rattle.listing.specs.Listing.{labelled, line_with, link_line}
use Rattle.text.proofs.Overlays.{◌then◌}
use Rattle.listing.proofs.write.put_link_line.Goals as goal

pub returns : goal.returns
unfolding link_line line_with labelled ascii
returns c =
    c.put_labelled.ensures then (c.put_spaced.ensures then (c.put_labelled-2.ensures
    then (c.put_spaced-2.ensures then (c.put_spaced-3.ensures then (c.put_spaced-4.ensures
    then (c.put_labelled-3.ensures then (c.put_spaced-5.ensures then c.put.ensures)))))))

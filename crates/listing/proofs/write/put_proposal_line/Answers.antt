use Rattle.text.specs.Text.{ascii}
use Rattle.listing.specs.Listing.{labelled, line_with, proposal_line}
use Rattle.text.proofs.Overlays.{◌then◌}
use Rattle.listing.proofs.write.put_proposal_line.Goals as goal

pub returns : goal.returns
unfolding proposal_line line_with labelled ascii
returns c =
    let all = c.put_labelled.ensures then (c.put_spaced.ensures then (c.put_spaced-2.ensures
    then (c.put_spaced-3.ensures then c.put.ensures))) in
    rw (c.saturating_sub.ensures, c.number_at-id.ensures, c.number_at-start.ensures, c.number_at-end.ensures) at all

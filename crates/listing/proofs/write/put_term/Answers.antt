use Rattle.text.specs.Text.{ascii}
use Rattle.listing.specs.Listing.{labelled, term_in}
use Rattle.listing.proofs.write.put_term.Goals as goal

pub returns : goal.returns
unfolding term_in labelled ascii
returns c = rw c.byte_at.ensures at c.put_spaced.ensures

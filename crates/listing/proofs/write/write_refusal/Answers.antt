use Rattle.std.proofs.Common.{rules, refl}
use Rattle.text.specs.Text.{ascii}
use Rattle.listing.specs.Listing.{labelled, line_with, refusal_text}
use Rattle.text.proofs.Overlays.{◌then◌, whole}
use Rattle.listing.proofs.write.write_refusal.Goals as goal

pub returns : goal.returns
unfolding refusal_text line_with labelled ascii
returns c = whole (c.put_labelled.ensures then c.put.ensures) refl (search rules)

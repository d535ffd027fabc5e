use Rattle.text.proofs.Overlays.{Listed}
use Rattle.listing.specs.Listing.{term_in, term_most}
use Rattle.listing.proofs.write.put_terms.Given as goal

abbrev pub invariant-loop-k : goal.invariant-loop-k
invariant-loop-k l = Listed (term_in l.log) term_most l.fn.n l.initial.over l.k l.over

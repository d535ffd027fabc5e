use Rattle.std.proofs.Common.{◌≡◌, ℕ, ◌<◌}
use Rattle.archive.specs.Layout.{offset_in}
use Rattle.archive.proofs.Orders.{start_of}
use Rattle.archive.proofs.layout.in_order.Given as goal

-- the sections before this one start where they should, and the last of them ends here
abbrev pub invariant-loop-section : goal.invariant-loop-section
invariant-loop-section l = (l.end ≡ start_of l.file l.section-index) × ((k : ℕ) → k < l.section-index → offset_in l.file k ≡ start_of l.file k)

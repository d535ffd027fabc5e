-- The terms below m are recorded, and the iterator has the members of the set from m on.
use Prim.Native.Nat.{ℕ, ◌≤◌}
use Rattle.config.specs.Limits.{max_terms}
use Rattle.network.specs.Graph.{has}
use Rattle.network.proofs.Lowest.{Walked}
use Rattle.phy.specs.Slot.{among}
use Rattle.pipeline.specs.View.{Records}
use Rattle.pipeline.proofs.records.History.record_all.Given as goal

abbrev pub invariant-loop-t : goal.invariant-loop-t
invariant-loop-t l =
    (goal.iterator-loop-t).can_next l.t-iterator × (goal.iterator-loop-t).is_finite l.t-iterator
    × ((m : ℕ) × (m ≤ max_terms) × Walked l.newly l.t-iterator.left m × Records l.end.0 (among m (has l.newly)) l.fn.x l.fn.self l.r l.self)

-- The nodes below m have had their turns, and the iterator has the members of the set from m on.
use Prim.Native.Nat.{ℕ}
use Rattle.network.proofs.Lowest.{Walked}
use Rattle.pipeline.proofs.Sharing.{Turned}
use Rattle.pipeline.proofs.round.process_round.Given as goal

abbrev pub invariant-loop-j : goal.invariant-loop-j
invariant-loop-j l =
    (goal.iterator-loop-j).can_next l.j-iterator × (goal.iterator-loop-j).is_finite l.j-iterator
    × ((m : ℕ) × Walked l.took l.j-iterator.left m × Turned l.n l.packet l.slot l.part l.initial.y l.fn.states l.fn.history m l.y l.states l.history)

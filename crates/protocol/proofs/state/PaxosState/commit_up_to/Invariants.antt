-- The terms below m are committed, and the iterator has the members of the set from m on.
use Prim.Native.Nat.{ℕ, suc, ◌≤◌, ◌<◌}
use Rattle.network.proofs.Lowest.{Walked}
use Rattle.protocol.specs.Paxos.{commit_below}
use Rattle.protocol.specs.View.{view, Next}
use Rattle.protocol.proofs.state.PaxosState.commit_up_to.Given as goal

abbrev pub invariant-loop-t : goal.invariant-loop-t
invariant-loop-t l =
    (goal.iterator-loop-t).can_next l.t-iterator × (goal.iterator-loop-t).is_finite l.t-iterator
    × ((m : ℕ) × Walked l.newly l.t-iterator.left m × (m ≤ suc l.fn.last.0) × Next (λ c. l.fn.last.0 < c) l.fn.self l.self (commit_below m (view l.fn.self)))

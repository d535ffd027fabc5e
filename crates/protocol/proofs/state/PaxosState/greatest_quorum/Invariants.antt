-- No term from t on has a quorum.
use Prim.Native.Nat.{ℕ, ◌≤◌}
use mathlib.Core.Bool.{false}
use mathlib.Core.Path.{◌≡◌}
use Rattle.protocol.specs.Paxos.{quorum}
use Rattle.protocol.specs.View.{pending_of}
use Rattle.protocol.proofs.state.PaxosState.greatest_quorum.Given as goal

abbrev pub invariant-loop-t : goal.invariant-loop-t
invariant-loop-t l = (u : ℕ) → l.t ≤ u → quorum l.n (pending_of l.self u) ≡ false

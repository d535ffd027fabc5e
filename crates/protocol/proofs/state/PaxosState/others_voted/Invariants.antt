-- `other` is 0 exactly when the terms passed have the own vote alone.
use mathlib.Core.Bool.{◌||◌}
use mathlib.Core.Path.{◌≡◌}
use Prim.Native.Nat.{ℕ, ◌+◌}
use lib.Dec.{eqb, ltb}
use Rattle.network.specs.Graph.{all}
use Rattle.protocol.specs.View.{votes_at}
use Rattle.protocol.proofs.state.PaxosState.others_voted.Given as goal

abbrev pub invariant-loop-votes : goal.invariant-loop-votes
invariant-loop-votes l = eqb l.other 0 ≡ all (l.first + l.votes-index) (λ (t : ℕ). ltb t l.first || eqb (votes_at l.self t) l.own)

-- After k steps, each of which changed the set, it holds the nodes at most k links away, and `latest` those that the last step added.
use Rattle.std.proofs.Common.{◌≡◌, ◌<◌, ◌-◌, ℕ, suc}
use Rattle.network.specs.Distance.{reach}
use Rattle.network.proofs.Spread.{Latest}
use Rattle.network.proofs.graph.Graph.eccentricity.Given as goal

abbrev pub invariant-loop-reached : goal.invariant-loop-reached
invariant-loop-reached l =
    (l.reached ≡ reach l.self.rows l.self.nodes l.fn.a.0 l.k)
    × ((m : ℕ) → m < l.k → reach l.self.rows l.self.nodes l.fn.a.0 (suc m) ≡ reach l.self.rows l.self.nodes l.fn.a.0 m → ⊥)
    × Latest l.self.rows l.self.nodes l.reached l.latest

abbrev pub decreases-loop-reached : goal.decreases-loop-reached
decreases-loop-reached l = l.self.nodes - l.k

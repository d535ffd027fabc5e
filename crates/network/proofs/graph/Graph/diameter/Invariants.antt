-- After a turns it holds the greatest eccentricity of the nodes below a.
use Rattle.std.proofs.Common.{◌≡◌, ◌≤◌}
use Rattle.network.specs.Distance
use Rattle.network.specs.Distance.{eccentricity}
use Rattle.network.proofs.graph.Graph.diameter.Given as goal

abbrev pub invariant-loop-a : goal.invariant-loop-a
invariant-loop-a l = (l.a ≤ l.self.nodes) × (l.greatest ≡ Distance.greatest l.a (eccentricity l.self.rows l.self.nodes))

-- Before each turn it holds the union of the rows of the members of `latest` that are passed, those below m.
use Rattle.std.proofs.Common.{◌≡◌, ◌≤◌, ◌<◌, ◌^◌, ℕ}
use Rattle.network.specs.Graph.{has}
use Rattle.network.proofs.Lowest.{Walked}
use Rattle.network.proofs.Spread.{touches}
use Rattle.network.proofs.graph.Graph.linked_to.Given as goal

abbrev pub invariant-loop-t : goal.invariant-loop-t
invariant-loop-t l =
    (m : ℕ) × (m ≤ l.self.nodes) × Walked l.latest l.t-iterator.left m × (l.found < 2 ^ l.self.nodes) × ((j : ℕ) → has l.found j ≡ touches l.self.rows l.latest m j)

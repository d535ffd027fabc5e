use Rattle.std.proofs.Common.{◌≡◌, ◌≤◌, true}
use Rattle.network.specs.Graph.{all, row_backed}
use Rattle.network.proofs.graph.Graph.rows_right.Given as goal

abbrev pub invariant-loop-i : goal.invariant-loop-i
invariant-loop-i l = (l.i ≤ l.self.nodes) × (all l.i (row_backed l.self.rows l.self.nodes) ≡ true)

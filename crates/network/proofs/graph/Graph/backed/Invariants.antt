-- The nodes passed, those below m, have i in their rows where they are in i's.
use Rattle.std.proofs.Common.{◌≡◌, ◌<◌, ℕ, get_or, true, not, ◌||◌}
use Rattle.network.specs.Graph.{linked}
use Rattle.network.proofs.Lowest.{Walked}
use Rattle.network.proofs.graph.Graph.backed.Given as goal

abbrev pub invariant-loop-j : goal.invariant-loop-j
invariant-loop-j l =
    (m : ℕ) × Walked (get_or l.self.rows l.i.0 0) l.j-iterator.left m × ((j : ℕ) → j < m → not (linked l.self.rows l.i.0 j) || linked l.self.rows j l.i.0 ≡ true)

use Rattle.std.proofs.Common.{◌≡◌}
use Rattle.network.specs.Graph.{widened}
use Rattle.network.proofs.graph.widen.Given as goal

-- the first i rows stand
abbrev pub invariant-loop-i : goal.invariant-loop-i
invariant-loop-i l = l.wide ≡ widened l.rows l.i

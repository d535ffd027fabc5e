use Rattle.random.proofs.Tables.{Filled}
use Rattle.network.specs.Topology.{topology_row}
use Rattle.network.proofs.topology.topology_rows.Given as goal

abbrev pub invariant-loop-i : goal.invariant-loop-i
invariant-loop-i l = Filled (topology_row l.t l.n) l.n l.row-items l.i

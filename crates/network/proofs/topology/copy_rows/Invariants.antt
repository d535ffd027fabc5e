use Rattle.std.proofs.Common.{◌≡◌, ◌++◌, take, drop}
use Rattle.network.proofs.topology.copy_rows.Given as goal

-- the first i rows are in place
abbrev pub invariant-loop-i : goal.invariant-loop-i
invariant-loop-i l = l.out ≡ take l.i l.wide ++ drop l.i l.fn.out

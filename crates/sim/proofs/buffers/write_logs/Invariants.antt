use Rattle.std.proofs.Common.{◌≡◌}
use Rattle.pipeline.specs.View.{states_of}
use Rattle.rules.specs.Entries.{logs_with}
use Rattle.sim.proofs.buffers.write_logs.Given as goal

-- the logs of the first i nodes are written
abbrev pub invariant-loop-i : goal.invariant-loop-i
invariant-loop-i l = l.logs ≡ logs_with l.initial.logs (states_of l.n l.states) l.i

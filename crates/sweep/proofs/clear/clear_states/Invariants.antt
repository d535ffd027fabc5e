use Rattle.std.proofs.Common.{ℕ, ◌<◌, get_or}
use Rattle.protocol.specs.View.{NoTerm}
use Rattle.pipeline.specs.View.{outside}
use Rattle.sweep.proofs.clear.clear_states.Given as goal

-- the nodes passed have no term
abbrev pub invariant-loop-state : goal.invariant-loop-state
invariant-loop-state l = (j : ℕ) → j < l.state-index → NoTerm (get_or l.state-items j outside)

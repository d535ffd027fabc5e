use Rattle.std.proofs.Common.{◌≡◌}
use Rattle.std.proofs.lemmas.List.Edits.{sets}
use Rattle.random.specs.Table.{tabulate}
use Rattle.protocol.specs.View.{term_at}
use Rattle.sim.proofs.buffers.copy_terms.Given as goal

-- the first k terms are copied
abbrev pub invariant-loop-k : goal.invariant-loop-k
invariant-loop-k l = l.place-items ≡ sets l.initial.place-items 0 (tabulate l.k (term_at l.state))

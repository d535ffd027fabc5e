use Rattle.std.proofs.Common.{◌≡◌, ◌≤◌}
use Rattle.random.specs.ChaCha.{double_rounds}
use Rattle.random.proofs.chacha.double_rounds.Given as goal

abbrev pub invariant-loop-i : goal.invariant-loop-i
invariant-loop-i l = (l.i ≤ l.k) × (l.t ≡ double_rounds l.i l.fn.s)

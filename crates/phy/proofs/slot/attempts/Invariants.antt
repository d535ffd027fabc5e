-- The flooding nodes passed, those below m, have tried their listening neighbours.
use Rattle.std.proofs.Common.{◌≤◌, ◌*◌, ℕ}
use Rattle.config.specs.Limits.{set_bits}
use Rattle.network.specs.Graph.{has}
use Rattle.network.proofs.Lowest.{Walked}
use Rattle.phy.specs.Slot.{receivers}
use Rattle.phy.specs.View.{TriedOn}
use Rattle.phy.proofs.slot.attempts.Given as goal

abbrev pub invariant-loop-i : goal.invariant-loop-i
invariant-loop-i l =
    (m : ℕ) × Walked l.flooding l.i-iterator.left m × (m ≤ l.n) × TriedOn l.rate (set_bits * m) (receivers l.rows (has l.flooding) (has l.listening) l.n m) l.fn.t l.fn.stream l.tried l.stream

-- The members passed, those below m, were tried.
use Rattle.std.proofs.Common.{◌≤◌, ℕ}
use Rattle.config.specs.Limits.{set_bits}
use Rattle.network.specs.Graph.{has}
use Rattle.network.proofs.Lowest.{Walked}
use Rattle.phy.specs.Slot.{among}
use Rattle.phy.specs.View.{TriedOn}
use Rattle.phy.proofs.slot.attempts_at.Given as goal

abbrev pub invariant-loop-j : goal.invariant-loop-j
invariant-loop-j l =
    (m : ℕ) × Walked l.fn.set l.j-iterator.left m × (m ≤ set_bits) × TriedOn l.rate m (among m (has l.fn.set)) l.fn.t l.fn.stream l.tried l.stream

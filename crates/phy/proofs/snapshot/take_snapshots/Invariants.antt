-- From where the definitions stood before, they take what the code took so far, and as much is still due.
use Rattle.std.proofs.Common.{◌≡◌, ◌+◌, ◌-◌, ◌*◌, ◌≤◌, ◌<◌, ℕ, suc, List}
use Rattle.phy.specs.Slot.{Shots, take_while}
use Rattle.phy.specs.View.{shot_of, Scheduled}
use Rattle.phy.proofs.snapshot.take_snapshots.Given as goal

abbrev pub invariant-loop-next : goal.invariant-loop-next
invariant-loop-next l =
    let first = l.fn.schedule in
    (l.next ≡ l.count * l.interval)
    × (first.count ≤ l.count)
    × ((b₀ : List ℕ) (x₀ : Shots) → Scheduled l.first first.next.0 first.count b₀ l.fn.snapshots x₀
    → (most : ℕ) × (x : Shots)
    × (l.this < l.next + most)
    × Scheduled l.first l.next l.count b₀ l.snapshots x
    × (take_while l.interval (shot_of l.shown) l.this most x ≡ take_while l.interval (shot_of l.shown) l.this (suc l.this) x₀))

abbrev pub decreases-loop-next : goal.decreases-loop-next
decreases-loop-next l = l.this + 1 - l.next

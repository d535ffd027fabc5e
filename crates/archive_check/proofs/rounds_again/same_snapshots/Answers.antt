use Rattle.std.proofs.Common.{ℕ, ◌*◌, ◌/◌, ◌≡◌, true, List, length, take, drop, sym, ap, arith}
use Rattle.config.specs.Limits.{snapshot_size}
use Rattle.archive.specs.Bytes.{numbers_bytes, same_bytes}
use Rattle.archive.specs.Layout.{snapshot_bytes}
use Rattle.archive_check.specs.Working.{taken}
use Rattle.archive_check.proofs.rounds_again.same_snapshots.Goals as goal

-- none is compared
nothing : (section shots : List ℕ) (n d : ℕ) → n ≡ 0 → true ≡ same_bytes (take (snapshot_bytes * n) (drop d section)) (numbers_bytes (take (snapshot_size * n) shots))
unfolding same_bytes numbers_bytes
nothing section shots n d e =
    sym (ap (λ (k : ℕ). same_bytes (take (snapshot_bytes * k) (drop d section)) (numbers_bytes (take (snapshot_size * k) shots))) e)

pub returns-then-end-from : goal.returns-then-end-from
returns-then-end-from c =
    let a = c.args in
    let stored = length a.section.now / snapshot_bytes in
    let none : taken stored a.from a.to ≡ 0 = omega (arith, c.min-end.ensures, c.if-end-from.true) in
    nothing a.section.now a.shots.now (taken stored a.from a.to) (snapshot_bytes * a.from) none

use Rattle.std.proofs.Common.{ℕ, ◌*◌, ◌/◌, List, length, take, drop, ap, ◌∙◌, arith}
use mathlib.Core.Path.{ap₂}
use Rattle.config.specs.Limits.{snapshot_size}
use Rattle.archive.specs.Bytes.{numbers_bytes, same_bytes}
use Rattle.archive.specs.Layout.{snapshot_bytes}
use Rattle.archive.proofs.Orders.{keeps, length_section}
use Rattle.archive_check.specs.Working.{taken}
use Rattle.archive_check.proofs.rounds_again.same_taken.Goals as goal

pub returns : goal.returns
returns c =
    let a = c.args in
    let bytes = a.file.bytes.now in
    c.same_snapshots.ensures
    ∙ ap₂ (λ (l : List ℕ) (m : ℕ). same_bytes (take (snapshot_bytes * taken (m / snapshot_bytes) a.from a.to) (drop (snapshot_bytes * a.from) l))
    (numbers_bytes (take (snapshot_size * taken (m / snapshot_bytes) a.from a.to) a.work.now.snapshots.now)))
    c.part.ensures (ap length c.part.ensures ∙ length_section bytes (keeps bytes a.file.kept) 3 (omega arith))

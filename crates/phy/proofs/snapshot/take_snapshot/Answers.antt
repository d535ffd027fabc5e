use Rattle.std.proofs.Common.{◌+◌, ◌*◌, length, ap, ◌∙◌, arith}
use Rattle.std.proofs.Math.Seq.{sets}
use Rattle.config.specs.Limits.{snapshot_size}
use Rattle.phy.proofs.Snapshots.{copied}
use Rattle.phy.proofs.snapshot.take_snapshot.Goals as goal

pub returns-then-count-room : goal.returns-then-count-room
returns-then-count-room c =
    let b = c.args.snapshots.now in
    let at = snapshot_size * c.args.count in
    let put = c.copy_from_slice.ensures.after in
    record {
      fits = λ h. copied b c.copy_from_slice.new.self at (at + snapshot_size) (omega (arith, ap length put)) h ∙ ap (sets b at) put;
      full = λ h. absurd (omega (arith, h));
    }

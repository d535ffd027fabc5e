use Rattle.std.proofs.Common.{◌+◌, length, ap, ◌∙◌, arith}
use Rattle.std.proofs.Math.Seq.{sets}
use Rattle.phy.proofs.Snapshots.{copied}
use Rattle.sweep.proofs.put_swept_line.Goals as goal

pub returns : goal.returns
returns c =
    let put = c.copy_from_slice.ensures.after in
    copied c.args.table.now c.copy_from_slice.new.self c.args.at (c.args.at + 7) (omega (arith, ap length put)) c.requires
    ∙ ap (sets c.args.table.now c.args.at) put

use Rattle.std.proofs.Common.{◌+◌, length, ap, ◌∙◌, arith}
use Rattle.std.proofs.lemmas.List.Edits.{sets}
use Rattle.phy.proofs.Snapshots.{copied}
use Rattle.pipeline.proofs.records.put_record.Goals as goal

pub returns : goal.returns
returns c =
    let put = c.copy_from_slice.ensures.after in
    copied c.args.out.now c.copy_from_slice.new.self c.args.at (c.args.at + 3) (omega (arith, ap length put)) c.requires
    ∙ ap (sets c.args.out.now c.args.at) put

use Rattle.archive_writer.proofs.Lays.{head_laid}
use Rattle.archive_writer.proofs.put.put_head.Goals as goal

pub returns : goal.returns
returns c =
    head_laid c.args.records c.args.snapshots c.args.file.now c.put_pair.ensures c.put_pair-2.ensures c.put_pair-3.ensures c.put_pair-4.ensures
    c.put_pair-5.ensures

use Rattle.archive_writer.proofs.Overs.{can_put, files}
use Rattle.archive_writer.proofs.run.file_over.Goals as goal

pub put_file-requires : goal.put_file-requires
put_file-requires c = can_put c.requires.0 c.run_over-summary.ensures c.write_logs.ensures

pub returns : goal.returns
returns c = files c.requires.0 c.run_over-summary.ensures c.write_logs.ensures c.put_file.ensures

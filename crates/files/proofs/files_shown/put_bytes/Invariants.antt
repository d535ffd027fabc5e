use Rattle.std.proofs.Common.{length}
use Rattle.files.proofs.files_shown.put_bytes.Given as goal

abbrev pub decreases-loop-rest : goal.decreases-loop-rest
decreases-loop-rest g l = length l.rest

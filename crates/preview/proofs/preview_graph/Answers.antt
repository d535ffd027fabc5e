use Rattle.std.proofs.Common.{arith}
use Rattle.rounds.specs.Going.{planned}
use Rattle.preview.proofs.Seen.{too_late}
use Rattle.preview.proofs.preview_graph.Goals as goal

pub returns-then-most_rounds-k : goal.returns-then-most_rounds-k
returns-then-most_rounds-k c = too_late (planned c.args.plan.now) c.args.k (omega (arith, c.most_rounds.ensures, c.if-most_rounds-k.true))

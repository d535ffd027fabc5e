use mathlib.Core.Path.{sym, ◌∙◌}
use Rattle.pipeline.proofs.Recordings.{records_known}
use Rattle.pipeline.proofs.records.History.record_one.Goals as goal

pub returns-then-has : goal.returns-then-has
returns-then-has c = records_known c.args.end.0 c.args.term.0 c.requires.0 c.requires.1 (sym c.has.ensures ∙ c.if-has.true)

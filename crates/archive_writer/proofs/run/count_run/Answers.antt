use Rattle.rounds.specs.Going.{planned}
use Rattle.archive_writer.proofs.Overs.{ran_summary}
use Rattle.archive_writer.proofs.run.count_run.Goals as goal

pub returns : goal.returns
returns c = ran_summary (planned c.args.plan.now) _ _ _ c.run_pipeline.ensures

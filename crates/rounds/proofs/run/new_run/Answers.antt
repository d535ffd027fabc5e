use Rattle.rounds.proofs.Beginning.{new_run}
use Rattle.rounds.proofs.run.new_run.Goals as goal

pub returns : goal.returns
returns c = new_run c.args.n c.requires c.new_radios-flood.ensures

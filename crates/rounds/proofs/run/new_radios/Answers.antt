use Rattle.rounds.proofs.Beginning.{new_radios_lem}
use Rattle.rounds.proofs.run.new_radios.Goals as goal

pub returns : goal.returns
returns c = new_radios_lem c.args.n c.full_set.result c.requires c.full_set.ensures

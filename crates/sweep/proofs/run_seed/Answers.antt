use Rattle.sweep.proofs.Seeds.{runs_seed}
use Rattle.sweep.proofs.run_seed.Goals as goal

pub returns : goal.returns
returns c =
    runs_seed c.args.plan.now c.args.seed c.requires.0 c.plan_with-seeded.ensures (rw c.most_rounds-most.ensures at c.play-stopped.ensures)
    c.summary_of.ensures c.clear_states.ensures.0 c.clear_states.ensures.1 c.clear_starts.ensures

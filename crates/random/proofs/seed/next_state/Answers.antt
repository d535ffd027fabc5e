use native.Mathlib.Nat.{mod-add-mod}
use Rattle.random.specs.Seed.{next_state}
use Rattle.random.proofs.seed.next_state.Goals as goal

pub returns : goal.returns
unfolding next_state
returns c = mod-add-mod _ _ _

use Rattle.random.specs.ChaCha.{quarter}
use Rattle.random.proofs.chacha.quarter_round.Goals as goal

pub returns : goal.returns
unfolding quarter
returns c = cc

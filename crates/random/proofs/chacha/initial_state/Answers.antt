use Rattle.std.proofs.Common.{sym, ap₂, rules}
use Rattle.random.specs.Table.{tabulate}
use Rattle.random.specs.ChaCha.{initial_state}
use Rattle.random.proofs.Tables.{by_places}
use Rattle.random.proofs.chacha.initial_state.Goals as goal

pub returns : goal.returns
unfolding initial_state tabulate
returns c = ap₂ initial_state (sym (by_places 8 0 c.args.key (search rules))) (sym (by_places 4 0 c.args.last (search rules)))

use Rattle.std.proofs.Common.{sym, ap, rules}
use Rattle.random.specs.Table.{tabulate}
use Rattle.random.specs.ChaCha.{quarter_at, column_round}
use Rattle.random.proofs.Tables.{by_places}
use Rattle.random.proofs.chacha.column_round.Goals as goal

pub returns : goal.returns
unfolding column_round quarter_at tabulate
returns c =
    rw (c.quarter_of-p.ensures, c.quarter_of-q.ensures, c.quarter_of-r.ensures, c.quarter_of-t.ensures)
    (ap column_round (sym (by_places 16 0 c.args.s (search rules))))

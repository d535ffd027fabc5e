-- The columns of the state with turned rows are the diagonals.
use Rattle.std.proofs.Common.{◌≡◌, List, ℕ, length, sym, ap, ◌∙◌, rules}
use Rattle.random.specs.Table.{tabulate}
use Rattle.random.specs.TurnedRows.{turned_rows}
use Rattle.random.specs.ChaCha.{quarter_at, column_round, diagonal_round}
use Rattle.random.proofs.Tables.{by_places}
use Rattle.random.proofs.chacha.diagonal_round.Goals as goal

turned_columns : (s : List ℕ) → length s ≡ 16 → turned_rows (turned_rows (turned_rows (column_round (turned_rows s)))) ≡ diagonal_round s
unfolding column_round diagonal_round quarter_at tabulate
turned_columns s h = ap diagonal_round (sym (by_places 16 0 s h))

pub returns : goal.returns
returns c =
    c.turn_rows-4.ensures
    ∙ ap turned_rows c.turn_rows-3.ensures
    ∙ ap (λ (t : List ℕ). turned_rows (turned_rows t)) c.turn_rows-2.ensures
    ∙ ap (λ (t : List ℕ). turned_rows (turned_rows (turned_rows t))) (c.column_round-t.ensures ∙ ap column_round c.turn_rows.ensures)
    ∙ turned_columns c.args.s (search rules)

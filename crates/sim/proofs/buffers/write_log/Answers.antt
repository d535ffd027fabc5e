use Prim.Native.Nat.{ℕ, ◌+◌, ◌*◌}
use mathlib.Core.Path.{sym, ap, ap₂, ◌∙◌}
use mathlib.Core.List.{List}
use native.Mathlib.Omega.{arith}
use native.Mathlib.Nat.{le_of_eq}
use lib.Count.{ones}
use lib.ListN.{length, set}
use lib.Seq.{sets}
use Rattle.config.specs.Limits.{max_terms, log_counts}
use Rattle.random.specs.Table.{tabulate}
use Rattle.random.proofs.Tables.{length_tabulate}
use Rattle.protocol.specs.View.{term_at}
use Rattle.protocol.proofs.Kept.{log_room}
use Rattle.protocol.proofs.TurnLaws.{log_terms_lem}
use Rattle.sim.proofs.buffers.write_log.Goals as goal

-- there is room for as many terms as the node has logged
pub copy_terms-requires : goal.copy_terms-requires
copy_terms-requires c = (c.requires.0, le_of_eq c.logged_count-count.ensures, omega (arith, c.requires.1, c.requires.2, c.logged_count-count.ensures, log_room c.requires.0))

pub overflow_cast-logs : goal.overflow_cast-logs
overflow_cast-logs c = omega (arith, c.logged_count-count.ensures, log_room c.requires.0)

pub returns : goal.returns
returns c =
    let a = c.args in
    let s = a.state.now in
    let i = a.node.0 in
    let terms-are = log_terms_lem s in
    let counted = c.logged_count-count.ensures in
    let copied = ap (λ (k : ℕ). tabulate k (term_at s)) counted ∙ sym terms-are in
    let count = counted ∙ sym (length_tabulate (ones s.logged) (term_at s)) ∙ ap length (sym terms-are) in
    ap₂ (λ (l : List ℕ) (k : ℕ). set l (log_counts + i) k) (c.copy_terms.ensures ∙ ap (sets a.logs.now (max_terms * i)) copied) count

use Rattle.std.proofs.Common.{◌≡◌, ◌++◌, ◌∙◌, ℕ, List, sym, ap₂, arith}
use Rattle.std.proofs.lemmas.List.{take_all, drop-replicate}
use native.Mathlib.Nat.{le_of_eq}
use Rattle.config.specs.Limits.{max_nodes}
use Rattle.network.specs.Graph.{widened}
use Rattle.network.specs.Topology.{topology_row, topology_rows}
use Rattle.random.proofs.Tables.{filled_all, length_tabulate}
use Rattle.network.proofs.topology.topology_rows.Goals as goal

pub returns : goal.returns
unfolding widened topology_rows
returns c =
    let a = c.args in
    let rows = topology_rows a.t a.n in
    let is : c.loop-i.row-items ≡ rows = filled_all c.loop-i.invariant (omega arith) in
    ap₂ (λ (x y : List ℕ). x ++ y) (is ∙ sym (take_all a.n rows (le_of_eq (length_tabulate a.n (topology_row a.t a.n))))) (drop-replicate a.n max_nodes 0)

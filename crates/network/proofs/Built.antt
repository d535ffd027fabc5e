-- What `build_graph` and `checked_graph` answer, as facts: which questions pass, and that the rows pass the row check.
-- Assumes nothing.
use mathlib.Core.Path.{◌≡◌, sym, ap, subst, ◌∙◌}
use mathlib.Core.List.{List, [], ◌∷◌}
use Prim.Native.Nat.{ℕ, ◌≤◌}
use Rattle.std.specs.Prelude.{Option, Some, None, Result, Ok, Err}
use Rattle.config.specs.Limits.{max_nodes}
use Rattle.config.specs.declared.refusal.Refusal.{Refusal}
use Rattle.config.specs.Refusals.{unless}
use Rattle.config.proofs.Unless.{refused, passed}
use Rattle.network.specs.Graph.{widened, Checked}
use Rattle.network.specs.Questions.{within, first_no, nodes_of, question4, rows_questions, topology_questions}
use Rattle.network.specs.Topology.{topology_of, topology_rows, graph_of, built_graph, checked_graph}
use Rattle.network.specs.declared.graph.Graph.{Graph}
use Rattle.network.proofs.Rows.{get_d_widened, length_widened}
use Rattle.network.proofs.Checks.{agree_checked, question4_checked}
use Rattle.network.proofs.Topologies.{rows_checked}
use Rattle.network.proofs.Within.{within_both, first_yes, topology_nodes}

-- rows that pass the row check pass it as a run takes them
pub wide_checked : (rows : List ℕ) (n : ℕ) → Checked rows n → Checked (widened rows n) n
wide_checked rows n ck =
    agree_checked rows (widened rows n) n (λ i h. sym (get_d_widened rows n ck.enough i h)) (length_widened rows n ck.enough) ck

-- ---- the graph of m nodes with these rows, from the refusal or none
module _ (rows : List ℕ) (m : ℕ) (o : Option Refusal) (g : Result Graph Refusal) (e : g ≡ unless o (graph_of rows m)) where
  pub graph_refused : (r : Refusal) → g ≡ Err r → o ≡ Some r
  graph_refused r a = refused (graph_of rows m) o r (sym e ∙ a)

  -- a graph was found: nothing refused it, it has m nodes, and these are its rows
  pub graph_found : (x : Graph) → g ≡ Ok x → (o ≡ None) × (x.nodes ≡ m) × (x.rows ≡ widened rows m)
  graph_found x a =
      let f = passed (graph_of rows m) o x (sym e ∙ a) in
      (f.0, sym (ap (λ (y : Graph). y.nodes) f.1), sym (ap (λ (y : Graph). y.rows) f.1))

-- ---- what the questions leave
pub topology_sized : (topology first second : ℕ) → first_no (topology_questions topology first second) ≡ None
    → let n = nodes_of topology first second in ((2 ≤ n) × (n ≤ max_nodes)) × Checked (topology_rows (topology_of topology second) n) n
topology_sized topology first second e =
    let n : ℕ = nodes_of topology first second in
    (within_both 2 max_nodes n (topology_nodes topology first second e), rows_checked (topology_of topology second) n)

pub rows_sized : (rows : List ℕ) (n : ℕ) → first_no (rows_questions rows n) ≡ None → ((2 ≤ n) × (n ≤ max_nodes)) × Checked rows n
rows_sized rows n e =
    let many = first_yes (within 2 max_nodes n, Refusal.NodeCount) ((question4 rows n, Refusal.WrongRows) ∷ []) e in
    (within_both 2 max_nodes n many.0, question4_checked rows n (first_yes (question4 rows n, Refusal.WrongRows) [] many.1).0)

-- ---- what a graph that was built is

-- n nodes, 2 to 32, whose rows pass the row check
pub record IsGraph (g : Graph) : Type 0 where
  pub two : 2 ≤ g.nodes
  pub few : g.nodes ≤ max_nodes
  pub checked : Checked g.rows g.nodes

wide_graph : (rows : List ℕ) (n : ℕ) → ((2 ≤ n) × (n ≤ max_nodes)) × Checked rows n → IsGraph (graph_of rows n)
wide_graph rows n s = record { two = s.0.0; few = s.0.1; checked = wide_checked rows n s.1 }

pub built_is : (topology first second : ℕ) (g : Graph) → built_graph topology first second ≡ Ok g
    → (first_no (topology_questions topology first second) ≡ None)
    × (graph_of (topology_rows (topology_of topology second) (nodes_of topology first second)) (nodes_of topology first second) ≡ g) × IsGraph g
built_is topology first second g e =
    let n : ℕ = nodes_of topology first second in
    let t : List ℕ = topology_rows (topology_of topology second) n in
    let f = passed (graph_of t n) (first_no (topology_questions topology first second)) g e in
    (f.0, f.1, subst IsGraph f.1 (wide_graph t n (topology_sized topology first second f.0)))

pub checked_is : (rows : List ℕ) (n : ℕ) (g : Graph) → checked_graph rows n ≡ Ok g
    → (first_no (rows_questions rows n) ≡ None) × (graph_of rows n ≡ g) × IsGraph g
checked_is rows n g e =
    let f = passed (graph_of rows n) (first_no (rows_questions rows n)) g e in
    (f.0, f.1, subst IsGraph f.1 (wide_graph rows n (rows_sized rows n f.0)))

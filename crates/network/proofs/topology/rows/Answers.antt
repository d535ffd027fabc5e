-- It adds question 10 to those of `build_graph`, and copies its rows.
use Rattle.std.proofs.Common.{◌≡◌, sym, ap, ap₂, ◌∙◌, Bool, true, cond, Some, None, Ok, List, [], ◌∷◌, ◌++◌, ℕ, ◌<◌, length, take, drop, arith}
use Rattle.std.proofs.Math.Seq.{get_or-take, length-take-le}
use borrow.Author.Tests.{le-leb}
use lib.Dec.{leb}
use lib.Pow.{pow_mono}
use native.Mathlib.Nat.{lt_of_lt_of_le}
use Rattle.config.specs.declared.refusal.Refusal.{Refusal}
use Rattle.config.proofs.Unless.{refused, goes_up}
use Rattle.random.proofs.Tables.{length_tabulate}
use Rattle.network.specs.Questions.{first_no, nodes_of, topology_questions}
use Rattle.network.specs.Graph.{widened}
use Rattle.network.specs.declared.graph.Graph.{Graph}
use Rattle.network.specs.declared.topology.Topology.{Topology}
use Rattle.network.specs.Topology.{topology_of, topology_row, topology_rows, with_rows, answered, graph_as, built_rows}
use Rattle.network.proofs.Built.{built_is}
use Rattle.network.proofs.Rows.{take_widened}
use Rattle.network.proofs.Within.{first_no_lem, all_yes}
use Rattle.network.proofs.topology.rows.Goals as goal

-- what question 10 adds, where the others pass
abbrev tenth : ℕ → ℕ → ℕ → List ℕ → List (Bool × Refusal)
tenth topology first second out = (leb (nodes_of topology first second) (length out), Refusal.ShortBuffers) ∷ []

pub returns-in_err-graph : goal.returns-in_err-graph
returns-in_err-graph c =
    let a = c.args in
    let qs = topology_questions a.topology a.first a.second in
    let t = topology_of a.topology a.second in
    let n = nodes_of a.topology a.first a.second in
    rw (goes_up _ c.from_residual.ensures.1)
    (sym
    (ap (answered t n a.out.now)
    (first_no_lem qs (tenth a.topology a.first a.second a.out.now) _ (refused (graph_as t n) (first_no qs) _ (sym c.in_err-graph.ensures)))))

pub copy_rows-requires : goal.copy_rows-requires
copy_rows-requires c =
    let a = c.args in
    let g = (built_is a.topology a.first a.second _ (sym c.in_ok-graph.ensures)).2 in
    let m = c.in_ok-graph.graph in
    let all = length-take-le m.nodes m.rows g.checked.enough in (
      omega (arith, all, c.if-out-n.false),
      λ i h.
          let low : i < m.nodes = omega (arith, all, h) in
          rw (get_or-take m.nodes m.rows i 0 low) (lt_of_lt_of_le (g.checked.narrow i low) (pow_mono {j = 32} g.few)),
    )

-- question 10 decides where the others pass
last : (topology first second : ℕ) (out : List ℕ) (b : Bool) → first_no (topology_questions topology first second) ≡ None
    → leb (nodes_of topology first second) (length out) ≡ b
    → built_rows topology first second out ≡ answered (topology_of topology second) (nodes_of topology first second) out (cond b None (Some Refusal.ShortBuffers))
last topology first second out b e l =
    ap (answered (topology_of topology second) (nodes_of topology first second) out)
    (all_yes (topology_questions topology first second) (tenth topology first second out) e ∙ ap (λ (x : Bool). cond x None (Some Refusal.ShortBuffers)) l)

-- the first rows in place are the topology's
placed : (t : Topology) (n : ℕ) (out : List ℕ) → take n (widened (topology_rows t n) n) ++ drop n out ≡ with_rows t n out
unfolding with_rows topology_rows
placed t n out = ap (λ (l : List ℕ). l ++ drop n out) (take_widened (topology_rows t n) n (length_tabulate n (topology_row t n)))

pub returns : goal.returns
returns c =
    let a = c.args in
    let out = a.out.now in
    let t = topology_of a.topology a.second in
    let n = nodes_of a.topology a.first a.second in
    let f = built_is a.topology a.first a.second _ (sym c.in_ok-graph.ensures) in
    let nodes : n ≡ c.in_ok-graph.graph.nodes = ap (λ (g : Graph). g.nodes) f.1 in
    let g = c.in_ok-graph.graph in
    ap₂ (λ (m : ℕ) (l : List ℕ). (Ok m, l)) (sym nodes)
    (c.copy_rows.ensures
    ∙ ap (λ (k : ℕ). take g.nodes g.rows ++ drop k out) (length-take-le g.nodes g.rows f.2.checked.enough)
    ∙ ap (λ (g : Graph). take g.nodes g.rows ++ drop g.nodes out) (sym f.1) ∙ placed t n out)
    ∙ sym (last a.topology a.first a.second out true f.0 (le-leb _ _ (omega (arith, nodes, c.if-out-n.false))))

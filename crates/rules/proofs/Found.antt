-- The network that is asked for: what its questions leave, what asking for it answers, and what is asked then. Assumes nothing.
use Prim.Native.Nat.{ℕ, ◌≤◌}
use mathlib.Core.List.{List}
use Rattle.std.specs.Prelude.{Some, None, Ok, Err}
use mathlib.Core.Path.{◌≡◌, refl, sym, ap, subst}
use Rattle.config.specs.Limits.{max_nodes}
use Rattle.config.specs.declared.Config.{Config}
use Rattle.config.specs.declared.refusal.Refusal.{Refusal}
use Rattle.config.proofs.Unless.{refused, passed}
use Rattle.network.specs.Graph.{Checked}
use Rattle.network.specs.Distance.{diameter}
use Rattle.network.specs.Questions.{first_no}
use Rattle.network.proofs.Built.{wide_checked, topology_sized, rows_sized}
use Rattle.network.proofs.Within.{first_no_lem, all_yes}
use Rattle.rules.specs.declared.networks.Network.{Network}
use Rattle.rules.specs.Accepted.{MeasuredGraph}
use Rattle.rules.specs.Questions.{config_questions, refusal_for}
use Rattle.rules.specs.Entries.{given_as, given_for}
use Rattle.rules.specs.Networks.{RowsOrTopology, of_rows, of_topology, network_questions, nodes_in, rows_in, graph_in, network_as, network_for}

-- ---- what the questions leave

-- 2 to 32 nodes, with rows that pass the row check
sized : (q : RowsOrTopology) → first_no (network_questions q) ≡ None → ((2 ≤ nodes_in q) × (nodes_in q ≤ max_nodes)) × Checked (rows_in q) (nodes_in q)
sized (of_rows rows n) e = rows_sized rows n e
sized (of_topology topology first second) e = topology_sized topology first second e

pub network_measured : (q : RowsOrTopology) → first_no (network_questions q) ≡ None → MeasuredGraph (graph_in q) (nodes_in q) (diameter (graph_in q) (nodes_in q))
network_measured q e =
    let s = sized q e in
    record { checked = wide_checked (rows_in q) (nodes_in q) s.1; two = s.0.0; few = s.0.1; measured = refl }

-- ---- what asking for it answers

-- the questions let it pass, and these are its graph, its number of nodes and its diameter
pub record Found (q : RowsOrTopology) (graph : List ℕ) (n d : ℕ) : Type 0 where
  pub passes : first_no (network_questions q) ≡ None
  pub measured : MeasuredGraph graph n d
  pub given : (c : Config) → given_as graph n d c ≡ given_for q c

module _ (q : RowsOrTopology) where
  pub network_refused : (r : Refusal) → Err r ≡ network_for q → first_no (network_questions q) ≡ Some r
  unfolding network_for
  network_refused r e = refused (network_as q) (first_no (network_questions q)) r (sym e)

  pub network_found : (x : Network) → Ok x ≡ network_for q → Found q x.graph.rows x.graph.nodes x.diameter
  unfolding network_for
  network_found x e =
      let f = passed (network_as q) (first_no (network_questions q)) x (sym e) in
      record {
        passes = f.0;
        measured = subst (λ (y : Network). MeasuredGraph y.graph.rows y.graph.nodes y.diameter) f.1 (network_measured q f.0);
        given = λ c. ap (λ (y : Network). given_as y.graph.rows y.graph.nodes y.diameter c) (sym f.1);
      }

-- ---- the refusal where no buffer is asked for

module _ (q : RowsOrTopology) (c : Config) where
  -- the network's questions refuse it
  pub network_no : (k : Refusal) → first_no (network_questions q) ≡ Some k → refusal_for q c ≡ Some k
  unfolding refusal_for
  network_no k e = first_no_lem (network_questions q) (config_questions c) k e

  -- they let it pass, and those of the configuration are left
  pub network_yes : first_no (network_questions q) ≡ None → refusal_for q c ≡ first_no (config_questions c)
  unfolding refusal_for
  network_yes e = all_yes (network_questions q) (config_questions c) e

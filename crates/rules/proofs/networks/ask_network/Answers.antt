-- The graph that the questions let pass has 2 to 32 nodes and passes the row check, so it has a diameter.
use Rattle.std.proofs.Common.{◌≤◌, sym, ap, subst, ◌∙◌, Ok}
use Rattle.config.specs.Limits.{max_nodes}
use Rattle.config.proofs.Unless.{still_refused, not_refused, passed, goes_up}
use Rattle.network.specs.Graph.{Checked}
use Rattle.network.specs.Distance.{diameter}
use Rattle.network.specs.Questions.{first_no}
use Rattle.network.specs.Topology.{graph_of}
use Rattle.network.specs.declared.graph.Graph.{Graph}
use Rattle.rules.specs.Networks.{asked_for, network_questions, nodes_in, rows_in, network_as, network_for}
use Rattle.rules.proofs.Found.{network_measured}
use Rattle.rules.proofs.networks.ask_network.Goals as goal

pub returns-in_err-graph : goal.returns-in_err-graph
unfolding network_for
returns-in_err-graph c =
    let q = asked_for c.args.asked in
    rw (goes_up _ c.from_residual.ensures.1) (still_refused (graph_of (rows_in q) (nodes_in q)) (network_as q) (first_no (network_questions q)) _ c.in_err-graph.ensures)

pub diameter-diameter-requires : goal.diameter-diameter-requires
diameter-diameter-requires c =
    let q = asked_for c.args.asked in
    let f = passed (graph_of (rows_in q) (nodes_in q)) (first_no (network_questions q)) _ (sym c.in_ok-graph.ensures) in
    let m = network_measured q f.0 in
    subst (λ (g : Graph). (g.nodes ≤ max_nodes) × Checked g.rows g.nodes) f.1 (m.few, m.checked)

pub returns : goal.returns
unfolding network_for
returns c =
    let q = asked_for c.args.asked in
    let f = passed (graph_of (rows_in q) (nodes_in q)) (first_no (network_questions q)) _ (sym c.in_ok-graph.ensures) in
    let links = c.diameter-diameter.ensures ∙ ap (λ (g : Graph). diameter g.rows g.nodes) (sym f.1) in
    (λ i. Ok (record { graph = sym f.1 i; diameter = links i })) ∙ not_refused (network_as q) (first_no (network_questions q)) f.0

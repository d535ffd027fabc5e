use Rattle.std.proofs.Common.{sym, ◌∙◌}
use Rattle.config.proofs.Unless.{refused, passed, goes_up}
use Rattle.network.specs.Questions.{first_no}
use Rattle.network.specs.Topology.{graph_of}
use Rattle.rules.specs.Networks.{asked_for, network_questions, nodes_in, rows_in}
use Rattle.validity.proofs.Refusals.{network_refuses, network_passes}
use Rattle.validity.proofs.validity_of.Goals as goal

pub returns-in_err-ask_graph : goal.returns-in_err-ask_graph
returns-in_err-ask_graph c =
    let q = asked_for c.args.asked in
    rw (goes_up _ c.from_residual.ensures.1) (network_refuses q c.args.config _ (refused (graph_of (rows_in q) (nodes_in q)) (first_no (network_questions q)) _ (sym c.in_err-ask_graph.ensures)))

pub returns : goal.returns
returns c =
    let q = asked_for c.args.asked in
    c.config_validity.ensures
    ∙ network_passes q c.args.config (passed (graph_of (rows_in q) (nodes_in q)) (first_no (network_questions q)) _ (sym c.in_ok-ask_graph.ensures)).0

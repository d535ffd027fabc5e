-- The rows that passed have the diameter of those that were given.
use Rattle.std.proofs.Common.{sym, ap, ◌∙◌, Ok}
use Rattle.config.proofs.Unless.{still_refused, not_refused}
use Rattle.network.specs.Graph.{widened}
use Rattle.network.specs.Questions.{first_no, rows_questions}
use Rattle.network.specs.Topology.{graph_of}
use Rattle.network.specs.Distance.{diameter, measured}
use Rattle.network.specs.declared.graph.Graph.{Graph}
use Rattle.network.proofs.Built.{checked_is, rows_sized}
use Rattle.network.proofs.Rows.{get_d_widened}
use Rattle.network.proofs.Checks.{diameter_agree}
use Rattle.network.proofs.distance.measure.Goals as goal

pub returns-in-Err : goal.returns-in-Err
unfolding measured
returns-in-Err c =
    let a = c.args in
    still_refused (graph_of a.rows.now a.n) (diameter a.rows.now a.n) (first_no (rows_questions a.rows.now a.n)) _ (sym c.in-Err.is ∙ c.checked_graph.ensures)

pub diameter-requires : goal.diameter-requires
diameter-requires c = let g = (checked_is c.args.rows.now c.args.n _ (sym c.checked_graph.ensures ∙ c.in-Ok.is)).2 in (g.few, g.checked)

pub returns-in-Ok : goal.returns-in-Ok
unfolding measured
returns-in-Ok c =
    let rows = c.args.rows.now in
    let n = c.args.n in
    let f = checked_is rows n _ (sym c.checked_graph.ensures ∙ c.in-Ok.is) in
    let enough = (rows_sized rows n f.0).1.enough in
    ap Ok
    (c.diameter.ensures
    ∙ ap (λ (g : Graph). diameter g.rows g.nodes) (sym f.1)
    ∙ sym (diameter_agree rows (widened rows n) n (λ i h. sym (get_d_widened rows n enough i h))))
    ∙ not_refused (diameter rows n) (first_no (rows_questions rows n)) f.0

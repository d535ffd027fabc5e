-- What the questions of the network, of the configuration and of the table let pass is swept; else the table stays.
use Rattle.std.proofs.Common.{length, sym, ◌∙◌}
use Rattle.config.proofs.Unless.{refused as unless_refused, goes_up}
use Rattle.network.specs.Questions.{first_no}
use Rattle.rules.specs.Questions.{config_questions}
use Rattle.rules.specs.Networks.{asked_for}
use Rattle.rules.proofs.Admitted.{network_accepts}
use Rattle.rules.proofs.FirstNo.{both_none, let_pass}
use Rattle.rules.proofs.Found.{network_refused, network_found}
use Rattle.sweep.specs.Sweep.{table_questions, sweep_questions}
use Rattle.sweep.proofs.Asked.{table_facts, network_refuses, network_passes, refused, swept_asked}
use Rattle.sweep.proofs.sweep_seeds.Goals as goal

pub returns-in_err-network : goal.returns-in_err-network
returns-in_err-network c =
    let a = c.args in
    let q = asked_for a.asked in
    rw (goes_up _ c.from_residual.ensures.1)
    (refused q a.config a.seeds.now a.table.now _ (network_refuses q a.config a.seeds.now a.table.now _ (network_refused q _ c.in_err-network.ensures)))

pub returns-in_err-ask_sweep : goal.returns-in_err-ask_sweep
returns-in_err-ask_sweep c =
    let a = c.args in
    let q = asked_for a.asked in
    let f = network_found q _ c.in_ok-network.ensures in
    let asked = sweep_questions a.config (length a.seeds.now) (length a.table.now) in
    rw (goes_up _ c.from_residual-in_err-ask_sweep.ensures.1)
    (refused q a.config a.seeds.now a.table.now _
    (network_passes q a.config a.seeds.now a.table.now f.passes ∙ unless_refused tt (first_no asked) _ (sym c.in_err-ask_sweep.ensures)))

pub sweep_graph-requires : goal.sweep_graph-requires
sweep_graph-requires c =
    let a = c.args in
    let pass = let_pass (sweep_questions a.config (length a.seeds.now) (length a.table.now)) c.in_ok-ask_sweep.ensures in
    let each = both_none (config_questions a.config) (table_questions (length a.seeds.now) (length a.table.now)) pass in
    let fits = table_facts (length a.seeds.now) (length a.table.now) each.1 in
    record { accepted = network_accepts (asked_for a.asked) _ a.config c.in_ok-network.ensures each.0; few = fits.0; room = fits.1 }

pub returns : goal.returns
returns c =
    let a = c.args in
    let q = asked_for a.asked in
    let f = network_found q _ c.in_ok-network.ensures in
    let pass = let_pass (sweep_questions a.config (length a.seeds.now) (length a.table.now)) c.in_ok-ask_sweep.ensures in
    swept_asked q a.config a.seeds.now a.table.now f (network_passes q a.config a.seeds.now a.table.now f.passes ∙ pass) c.sweep_graph.ensures

-- What the questions of the network, of the configuration and of the buffers let pass is run; else every buffer stays.
use Rattle.std.proofs.Common.{length, sym, ap, ◌∙◌}
use Rattle.std.specs.Prelude.{Option}
use Rattle.config.proofs.Unless.{refused, goes_up}
use Rattle.config.specs.declared.refusal.Refusal.{Refusal}
use Rattle.network.specs.Questions.{first_no}
use Rattle.rules.specs.Questions.{config_questions, buffer_questions, run_questions}
use Rattle.rules.specs.Networks.{asked_for}
use Rattle.rules.specs.Run.{Given}
use Rattle.rules.specs.Entries.{given_as, outcome_of}
use Rattle.rules.proofs.Admitted.{network_accepts}
use Rattle.rules.proofs.FirstNo.{both_none, buffer_facts, let_pass}
use Rattle.rules.proofs.Found.{network_refused, network_found}
use Rattle.rules.proofs.Outcomes.{outcome_refused, outcome_passed}
use Rattle.sim.proofs.entries.run.Goals as goal

pub returns-in_err-network : goal.returns-in_err-network
returns-in_err-network c =
    let a = c.args in
    let q = asked_for a.asked in
    rw (goes_up _ c.from_residual.ensures.1) (outcome_refused q a.config a.logs.now a.records.now a.snapshots.now _ (network_refused q _ c.in_err-network.ensures))

pub returns-in_err-ask_run : goal.returns-in_err-ask_run
returns-in_err-ask_run c =
    let a = c.args in
    let q = asked_for a.asked in
    let f = network_found q _ c.in_ok-network.ensures in
    let g : Given = given_as c.in_ok-network.network.graph.rows c.in_ok-network.network.graph.nodes c.in_ok-network.network.diameter a.config in
    let asked = run_questions a.config (length a.logs.now) (length a.records.now) in
    rw (goes_up _ c.from_residual-in_err-ask_run.ensures.1)
    (ap (λ (o : Option Refusal). outcome_of o g a.logs.now a.records.now a.snapshots.now)
    (sym (refused tt (first_no asked) _ (sym c.in_err-ask_run.ensures)))
    ∙ outcome_passed q a.config a.logs.now a.records.now a.snapshots.now f)

pub run_pipeline-requires : goal.run_pipeline-requires
run_pipeline-requires c =
    let a = c.args in
    let pass = let_pass (run_questions a.config (length a.logs.now) (length a.records.now)) c.in_ok-ask_run.ensures in
    let each = both_none (config_questions a.config) (buffer_questions (length a.logs.now) (length a.records.now)) pass in
    let long = buffer_facts (length a.logs.now) (length a.records.now) each.1 in
    record { accepted = network_accepts (asked_for a.asked) _ a.config c.in_ok-network.ensures each.0; logs_long = long.0; records_long = long.1 }

pub returns : goal.returns
returns c =
    let a = c.args in
    let f = network_found (asked_for a.asked) _ c.in_ok-network.ensures in
    let n = c.in_ok-network.network in
    let g : Given = given_as n.graph.rows n.graph.nodes n.diameter a.config in
    let pass = let_pass (run_questions a.config (length a.logs.now) (length a.records.now)) c.in_ok-ask_run.ensures in
    c.run_pipeline.ensures
    ∙ ap (λ (o : Option Refusal). outcome_of o g a.logs.now a.records.now a.snapshots.now) (sym pass)
    ∙ outcome_passed (asked_for a.asked) a.config a.logs.now a.records.now a.snapshots.now f

-- What the questions of the network and of the configuration let pass is seen ahead.
use Rattle.std.proofs.Common.{sym, ap, ◌∙◌}
use Rattle.config.proofs.Unless.{refused as unless_refused, goes_up}
use Rattle.network.specs.Questions.{first_no}
use Rattle.rules.specs.Questions.{config_questions}
use Rattle.rules.specs.Run.{Given}
use Rattle.rules.specs.Networks.{asked_for}
use Rattle.rules.proofs.Admitted.{network_accepts}
use Rattle.rules.proofs.FirstNo.{let_pass}
use Rattle.rules.proofs.Found.{network_refused, network_found, network_no, network_yes}
use Rattle.preview.specs.Preview.{preview_in}
use Rattle.preview.proofs.Seen.{refused, unrefused}
use Rattle.preview.proofs.preview_round.Goals as goal

pub returns-in_err-network : goal.returns-in_err-network
returns-in_err-network c =
    let a = c.args in
    let q = asked_for a.asked in
    rw (goes_up _ c.from_residual.ensures.1) (refused q a.config a.k _ (network_no q a.config _ (network_refused q _ c.in_err-network.ensures)))

pub returns-in_err-ask_config : goal.returns-in_err-ask_config
returns-in_err-ask_config c =
    let a = c.args in
    let q = asked_for a.asked in
    let f = network_found q _ c.in_ok-network.ensures in
    rw (goes_up _ c.from_residual-in_err-ask_config.ensures.1)
    (refused q a.config a.k _
    (network_yes q a.config f.passes ∙ unless_refused tt (first_no (config_questions a.config)) _ (sym c.in_err-ask_config.ensures)))

pub preview_graph-requires : goal.preview_graph-requires
preview_graph-requires c =
    network_accepts (asked_for c.args.asked) _ c.args.config c.in_ok-network.ensures (let_pass (config_questions c.args.config) c.in_ok-ask_config.ensures)

pub returns : goal.returns
returns c =
    let a = c.args in
    let q = asked_for a.asked in
    let f = network_found q _ c.in_ok-network.ensures in
    c.preview_graph.ensures
    ∙ ap (λ (g : Given). preview_in g a.k) (f.given a.config)
    ∙ unrefused q a.config a.k (network_yes q a.config f.passes ∙ let_pass (config_questions a.config) c.in_ok-ask_config.ensures)

use Rattle.std.proofs.Common.{◌≡◌, None, Ok, sym, ap, ◌∙◌}
use Rattle.config.proofs.Unless.{refused, goes_up}
use Rattle.network.specs.Questions.{first_no}
use Rattle.rules.specs.Questions.{config_questions, refusal_for}
use Rattle.rules.specs.Run.{Given}
use Rattle.rules.proofs.Admitted.{accepts}
use Rattle.rules.proofs.FirstNo.{let_pass}
use Rattle.rules.proofs.Found.{network_refused, network_found, network_no, network_yes}
use Rattle.archive_writer.specs.Filed.{network_in}
use Rattle.archive_check.specs.Again.{gives_again}
use Rattle.archive_check.proofs.runs_again.Goals as goal

pub returns-in_err-network : goal.returns-in_err-network
returns-in_err-network c =
    let q = network_in c.args.inputs in
    rw (goes_up c.from_residual.result c.from_residual.ensures.1, network_no q c.args.inputs.config _ (network_refused q _ c.in_err-network.ensures))

pub returns-in_err-ask_config : goal.returns-in_err-ask_config
returns-in_err-ask_config c =
    let q = network_in c.args.inputs in
    let config = c.args.inputs.config in
    let found = network_found q c.in_ok-network.network c.in_ok-network.ensures in
    rw (goes_up c.from_residual-in_err-ask_config.result c.from_residual-in_err-ask_config.ensures.1, network_yes q config found.passes ∙ refused tt (first_no (config_questions config)) _ (sym c.in_err-ask_config.ensures))

pub gives_again-requires : goal.gives_again-requires
gives_again-requires c =
    let config = c.args.inputs.config in
    let found = network_found (network_in c.args.inputs) c.in_ok-network.network c.in_ok-network.ensures in
    accepts config found.measured (let_pass (config_questions config) c.in_ok-ask_config.ensures)

pub returns : goal.returns
returns c =
    let q = network_in c.args.inputs in
    let config = c.args.inputs.config in
    let found = network_found q c.in_ok-network.network c.in_ok-network.ensures in
    let passes : refusal_for q config ≡ None = network_yes q config found.passes ∙ let_pass (config_questions config) c.in_ok-ask_config.ensures in
    rw passes (ap Ok (c.gives_again.ensures ∙ ap (λ (g : Given). gives_again g c.args.file.bytes.now) (found.given config)))

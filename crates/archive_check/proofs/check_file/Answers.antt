use Rattle.std.proofs.Common.{ℕ, ◌≡◌, Bool, false, List, Option, Some, None, Result, Ok, length, refl, ap, sym, ◌∙◌, arith}
use mathlib.Core.Path.{ap₂}
use Rattle.std.specs.Borrow.{Bor}
use Rattle.std.specs.Result.{result_unwrap_or}
use Rattle.config.specs.declared.refusal.Refusal.{Refusal}
use Rattle.config.specs.Refusals.{unless}
use Rattle.rules.specs.Run.{Given}
use Rattle.archive.specs.declared.inputs.Inputs.{Inputs}
use Rattle.archive.specs.Inputs.{inputs_in}
use Rattle.archive_writer.specs.Filed.{network_in}
use Rattle.archive_check.specs.Again.{gives_again, again_unless, again_for}
use Rattle.archive_check.specs.Check.{asked_in}
use Rattle.archive.proofs.Orders.{handed_inputs, length_inputs, kept_as}
use Rattle.archive_check.proofs.Checks.{check_broken, checks_again}
use Rattle.config.proofs.Unless.{goes_up}
use Rattle.archive_check.proofs.check_file.Goals as goal

pub returns-in_err-file : goal.returns-in_err-file
returns-in_err-file c =
    let told = c.in_err-file.ensures in
    rw (goes_up c.from_residual.result c.from_residual.ensures.1, told.1) (sym (check_broken c.args.file.now told.0))

pub inputs_in-inputs-requires : goal.inputs_in-inputs-requires
inputs_in-inputs-requires c =
    let file = c.in_ok-file.file in
    omega (arith, ap length c.inputs_of.ensures, length_inputs file.bytes.now file.kept)

-- a run that is refused gives nothing again
unwrapped : (o : Option Refusal) (g : Given) (file : List ℕ) → result_unwrap_or (unless o (gives_again g file)) false ≡ again_unless o g file
unwrapped None g file = refl
unwrapped (Some r) g file = refl

pub returns : goal.returns
unfolding again_for
returns c =
    let file = c.in_ok-file.file in
    let bytes = ap (λ (b : Bor (List ℕ)). b.now) c.in_ok-file.ensures in
    let first = c.inputs_of.ensures ∙ handed_inputs file.bytes.now file.kept in
    let inputs = c.inputs_in-inputs.ensures ∙ ap inputs_in first ∙ ap asked_in bytes in
    ap Ok
    (c.unwrap_or.ensures
    ∙ ap (λ (r : Result Bool Refusal). result_unwrap_or r false) c.runs_again.ensures
    ∙ unwrapped _ _ file.bytes.now
    ∙ ap₂ (λ (x : Inputs) (l : List ℕ). again_for (network_in x) x.config l) inputs bytes)
    ∙ sym (checks_again c.args.file.now (λ j. omega (arith, c.type_inv.file j)) (kept_as file c.in_ok-file.ensures))

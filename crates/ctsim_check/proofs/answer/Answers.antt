use Rattle.std.proofs.Common.{◌≡◌, ℕ, ◌≤◌, List, Ok, sym, ap, ◌∙◌, subst, arith}
use Rattle.text.specs.Text.{ascii}
use Rattle.text.specs.Overlay.{Written}
use Rattle.listing.specs.Listing.{refusal_most}
use Rattle.ctsim_check.specs.Verdict.{verdict_text}
use Rattle.ctsim_check.proofs.answer.Goals as goal

-- a text by another name, and within another bound
said : {m size : ℕ} {s t before after : List ℕ} → s ≡ t → m ≤ refusal_most → Written m s before after size → Written refusal_most t before after size
said {size = size} {before = before} {after = after} e h w =
    subst (λ (x : List ℕ). Written refusal_most x before after size) e
    (record { contents = w.contents; sized = w.sized; at_most = omega (arith, w.at_most) })

pub returns-in-Ok-true : goal.returns-in-Ok-true
unfolding ascii
returns-in-Ok-true c =
    said (ap verdict_text (ap Ok (sym c.in-Ok-true.field-0-test) ∙ c.in-Ok-true.ensures)) (omega arith) c.write_word.ensures

pub returns-in-Ok-false : goal.returns-in-Ok-false
unfolding ascii
returns-in-Ok-false c =
    said (ap verdict_text (ap Ok (sym c.in-Ok-false.field-0-test) ∙ c.in-Ok-false.ensures)) (omega arith) c.write_word-in-Ok-false.ensures

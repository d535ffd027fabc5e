-- The check against a fresh run of the file's first section, and what passes. Assumes nothing.
use Prim.Native.Nat.{ℕ}
use mathlib.Core.Path.{◌≡◌, refl, sym, ap, ◌∙◌}
use mathlib.Core.Bool.{Bool, true, false, ◌&&◌}
use mathlib.Core.List.{List}
use Rattle.std.specs.Prelude.{Option, None, Some, Ok, Err}
use Rattle.config.specs.declared.refusal.Refusal.{Refusal}
use native.Mathlib.Omega.{arith}
use Rattle.network.specs.Questions.{first_no}
use Rattle.rules.specs.Networks.{network_questions}
use Rattle.rules.specs.Questions.{config_questions, refusal_for}
use Rattle.rules.specs.Entries.{given_for}
use Rattle.rules.proofs.FirstNo.{both_none}
use Rattle.archive.specs.declared.inputs.Inputs.{Inputs}
use Rattle.archive.specs.Bytes.{AreBytes, numbers_bytes, same_bytes}
use Rattle.archive.specs.Inputs.{input_numbers}
use Rattle.archive.specs.Layout.{layout, offset_in, length_in, section_in}
use Rattle.archive.proofs.ByteLaws.{bytes_part, same_eq}
use Rattle.archive.proofs.InputLaws.{inputs_again}
use Rattle.archive.proofs.Orders.{keeps, length_section}
use Rattle.archive.proofs.Sections.{of_its_sections, same_file}
use Rattle.archive_writer.specs.Filed.{network_in, made}
use Rattle.archive_writer.proofs.Filings.{rate_passed}
use Rattle.archive_writer.proofs.Laws.{sections_fit}
use Rattle.archive_writer.proofs.Made.{made_run}
use Rattle.archive_check.specs.Again.{gives_again, again_unless, again_for}
use Rattle.archive_check.specs.Check.{asked_in, stored_in, checked_unless, check_of}
use Rattle.archive_check.specs.Laws.{ChecksAgain}

-- the two answers of a file that breaks the layout, and of one that keeps it
pub check_broken : (file : List ℕ) → layout file ≡ false → check_of file ≡ Err Refusal.BrokenLayout
unfolding check_of
check_broken file e = rw e

pub check_kept : (file : List ℕ) → layout file ≡ true → check_of file ≡ Ok (checked_unless (refusal_for (network_in (asked_in file)) (asked_in file).config) file)
unfolding check_of
check_kept file e = rw e

-- the configuration's questions let it pass too
pub config_passed : (x : Inputs) → refusal_for (network_in x) x.config ≡ None → first_no (config_questions x.config) ≡ None
unfolding refusal_for
config_passed x e = (both_none (network_questions (network_in x)) (config_questions x.config) e).1

but_first : (a b c d e : Bool) → a ≡ true → (a && b && c && d && e) ≡ (b && c && d && e)
but_first a b c d e q = ap (λ (z : Bool). z && b && c && d && e) q

module _ (file : List ℕ) (are : AreBytes file) (kept : layout file ≡ true) where
  abbrev x : Inputs
  x = asked_in file

  -- its first section is that of the inputs which it asks for
  first_same : refusal_for (network_in x) x.config ≡ None → same_bytes (section_in file 0) (numbers_bytes (input_numbers x)) ≡ true
  first_same passes =
      same_eq (sym (inputs_again (section_in file 0) (bytes_part file are (length_in file 0) (offset_in file 0))
      (length_section file (keeps file kept) 0 (omega arith) ∙ (keeps file kept).in_size.inputs) (rate_passed x.config (config_passed x passes))))

  -- so the file is the one that is made exactly when the other four sections are the run's
  same_made : refusal_for (network_in x) x.config ≡ None → same_bytes file (made x (stored_in file)) ≡ gives_again (given_for (network_in x) x.config) file
  unfolding gives_again
  same_made passes =
      ap (same_bytes file) (made_run x passes (stored_in file))
      ∙ same_file file (of_its_sections file are kept) (sections_fit x passes (stored_in file))
      ∙ but_first _ _ _ _ _ (first_same passes)

  pub checked_as : (o : Option Refusal) → refusal_for (network_in x) x.config ≡ o → checked_unless o file ≡ again_unless o (given_for (network_in x) x.config) file
  checked_as None e = same_made e
  checked_as (Some r) e = refl

pub checks_again : ChecksAgain
unfolding again_for
checks_again file are kept = check_kept file kept ∙ ap Ok (checked_as file are kept (refusal_for (network_in (asked_in file)) (asked_in file).config) refl)

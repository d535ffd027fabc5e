-- A file that passes the check is what the writer files, and what the writer files passes. Assumes nothing.
use Prim.Native.Nat.{ℕ, ◌*◌, ◌≤◌, min}
use mathlib.Core.Path.{◌≡◌, refl, sym, ap, ap₂, subst⁻¹, ◌∙◌}
use mathlib.Core.Bool.{Bool, true, false, true≢false}
use mathlib.Core.List.{List, [], ◌++◌}
use mathlib.Core.Logic.{◌⊎◌, inl, inr}
use Rattle.std.specs.Prelude.{Option, None, Some, Result, Ok}
use Rattle.config.specs.declared.refusal.Refusal.{Refusal}
use native.Mathlib.Omega.{arith}
use lib.Dec.{leb}
use lib.ListN.{length, get_or, take, replicate}
use lib.Seq.{sets, sets-eq, take-append_seam}
use borrow.Author.Tests.{le-leb, leb-true}
use Rattle.config.specs.Limits.{records_size, snapshot_size, log_size}
use Rattle.network.specs.Questions.{first_no}
use Rattle.network.proofs.Within.{all_yes, first_yes}
use Rattle.phy.specs.Snapshots.{snapshot_room}
use Rattle.rules.specs.Networks.{network_questions}
use Rattle.rules.specs.Questions.{slots_allowed, config_questions, buffer_questions, run_questions, refusal_for}
use Rattle.rules.specs.Run.{Given}
use Rattle.rules.specs.Entries.{Outcome, ran_with, outcome_for, given_for}
use Rattle.rules.proofs.FirstNo.{both_none, config_facts}
use Rattle.archive.specs.declared.inputs.Inputs.{Inputs}
use Rattle.archive.specs.Bytes.{same_bytes}
use Rattle.archive.specs.Inputs.{absent_slots, inputs_in, Fitting}
use Rattle.archive.specs.Layout.{snapshot_bytes, layout, length_in, section_in}
use Rattle.archive.proofs.ByteLaws.{two, same_true, same_eq}
use Rattle.archive.proofs.InputLaws.{inputs_back}
use Rattle.archive.proofs.Orders.{handed_section}
use Rattle.archive.proofs.Sections.{file_length_lem, file_section}
use Rattle.archive_writer.specs.Filed.{network_in, made}
use Rattle.archive_writer.specs.Filing.{Filing, file_questions, filing_refusal, filed_with, filing_unless, filing_for}
use Rattle.archive_writer.specs.Working.{summary_in}
use Rattle.archive_writer.proofs.Laws.{sections_fit, length_snapshots, made_kept, made_least}
use Rattle.archive_writer.proofs.Made.{roomy, ran_into, sections_are, made_run}
use Rattle.archive_check.specs.Check.{asked_in, stored_in, checked_unless, check_of}
use Rattle.archive_check.specs.Laws.{PassedIsFiled, Passes, FiledPasses}
use Rattle.archive_check.proofs.Checks.{check_broken, check_kept, config_passed}

-- ---- the check's yes

unless_yes : (o : Option Refusal) (file : List ℕ) → checked_unless o file ≡ true → (o ≡ None) × (same_bytes file (made (asked_in file) (stored_in file)) ≡ true)
unless_yes None file e = (refl, e)
unless_yes (Some r) file e = absurd (true≢false (sym e))

pub kept_yes : (file : List ℕ) → check_of file ≡ Ok true → layout file ≡ true
kept_yes file e = go (two (layout file))
  where
    go : (layout file ≡ true) ⊎ (layout file ≡ false) → layout file ≡ true
    go (inl k) = k
    go (inr b) = let q = check_broken file b in let z : ◌≡◌ {A = ℕ} 0 1 = cc in absurd (omega arith)

-- ---- the writer's answer

module _ (x : Inputs) (logs records snapshots out : List ℕ) where
  abbrev bytes : List ℕ
  bytes = made x (snapshot_room snapshots)

  abbrev refusal : Option Refusal
  refusal = filing_refusal x bytes (length logs) (length records) (length out)

  -- no question refuses
  all_pass : refusal_for (network_in x) x.config ≡ None → log_size ≤ length logs → records_size ≤ length records → length bytes ≤ length out → refusal ≡ None
  unfolding filing_refusal refusal_for
  all_pass passes l r s =
      let p = both_none (network_questions (network_in x)) (config_questions x.config) passes in
      let buffers : first_no (buffer_questions (length logs) (length records)) ≡ None = rw (le-leb log_size (length logs) l, le-leb records_size (length records) r) in
      all_yes (network_questions (network_in x) ++ run_questions x.config (length logs) (length records)) (file_questions bytes (length out))
      (all_yes (network_questions (network_in x)) (run_questions x.config (length logs) (length records)) p.0
      ∙ all_yes (config_questions x.config) (buffer_questions (length logs) (length records)) p.1 ∙ buffers)
      ∙ rw (le-leb (length bytes) (length out) s)

  pub filed_as_lem : refusal ≡ None → filing_for x logs records snapshots out ≡ filed_with bytes (outcome_for (network_in x) x.config logs records snapshots) out
  unfolding filing_for
  filed_as_lem e = ap (λ (o : Option Refusal). filing_unless o x logs records snapshots out) e

  -- where it filed so many bytes, none has refused, and these are the file
  module _ (n : ℕ) (answer : (filing_for x logs records snapshots out).answer ≡ Ok n) where
    unrefused : refusal ≡ None
    unfolding filing_for
    unrefused = go refusal answer
      where
        go : (o : Option Refusal) → (filing_unless o x logs records snapshots out).answer ≡ Ok n → o ≡ None
        go None e = refl
        go (Some r) e = let z : ◌≡◌ {A = ℕ} 0 1 = cc in absurd (omega arith)

    was_passed : (refusal_for (network_in x) x.config ≡ None) × (length bytes ≤ length out)
    unfolding filing_refusal refusal_for
    was_passed =
        let all = both_none (network_questions (network_in x) ++ run_questions x.config (length logs) (length records)) (file_questions bytes (length out)) unrefused in
        let run = both_none (network_questions (network_in x)) (run_questions x.config (length logs) (length records)) all.0 in
        let config = both_none (config_questions x.config) (buffer_questions (length logs) (length records)) run.1 in (
          all_yes (network_questions (network_in x)) (config_questions x.config) run.0 ∙ config.0,
          leb-true (length bytes) (length out) (first_yes (leb (length bytes) (length out), Refusal.ShortFile) [] all.1).0,
        )

    file_is : take n (filing_for x logs records snapshots out).file ≡ bytes
    file_is =
        let so = filed_as_lem unrefused in
        let size : ◌≡◌ {A = Result ℕ Refusal} (Ok (length bytes)) (Ok n) = sym (ap (λ (f : Filing). f.answer) so) ∙ answer in
        let sized : n ≡ length bytes = cc in
        ap₂ take sized (ap (λ (f : Filing). f.file) so ∙ sets-eq bytes out 0 (omega (arith, was_passed.1)))
        ∙ take-append_seam bytes _

-- ---- a file that passes is what the writer files

pub passed_is_filed : PassedIsFiled
passed_is_filed file e =
    let kept = kept_yes file e in
    let said : ◌≡◌ {A = Result Bool Refusal} (Ok (checked_unless (refusal_for (network_in (asked_in file)) (asked_in file).config) file)) (Ok true) = sym (check_kept file kept) ∙ e in
    let yes = unless_yes (refusal_for (network_in (asked_in file)) (asked_in file).config) file cc in
    let bytes = same_true file (made (asked_in file) (stored_in file)) yes.1 in
    record {
      accepted = yes.0;
      bytes = bytes;
      answer = λ logs records snapshots out l r room s.
          let same : made (asked_in file) (snapshot_room snapshots) ≡ file = ap (made (asked_in file)) room ∙ sym bytes in
          ap (λ (f : Filing). f.answer) (filed_as_lem (asked_in file) logs records snapshots out (all_pass (asked_in file) logs records snapshots out yes.0 l r (omega (arith, ap length same, s))))
          ∙ ap (λ (b : List ℕ). Ok (length b)) same;
      filed = λ logs records snapshots out l r room s.
          let same : made (asked_in file) (snapshot_room snapshots) ≡ file = ap (made (asked_in file)) room ∙ sym bytes in
          ap (λ (f : Filing). f.file) (filed_as_lem (asked_in file) logs records snapshots out (all_pass (asked_in file) logs records snapshots out yes.0 l r (omega (arith, ap length same, s))))
          ∙ ap (sets out 0) same;
    }

-- ---- what the writer files passes

module _ (x : Inputs) (fitting : Fitting x) (passes : refusal_for (network_in x) x.config ≡ None) (room : ℕ) where
  abbrev g : Given
  g = given_for (network_in x) x.config

  abbrev file : List ℕ
  file = made x room

  told : x.config.round_slots ≡ Some absent_slots → ⊥
  told e =
      true≢false (sym (sym (ap slots_allowed e) ∙ (config_facts x.config (config_passed x passes)).slots))

  asks : asked_in file ≡ x
  asks =
      ap inputs_in (ap (λ (f : List ℕ). section_in f 0) (made_run x passes room) ∙ file_section (sections_fit x passes room) 0 (omega arith))
      ∙ inputs_back x fitting told

  stored : stored_in file ≡ min room (summary_in g).snapshots
  stored =
      let size : length_in file 3 ≡ snapshot_bytes * min room (summary_in g).snapshots
      = ap (λ (f : List ℕ). length_in f 3) (made_run x passes room) ∙ file_length_lem (sections_fit x passes room) 3 (omega arith) ∙ length_snapshots g room in
      omega (arith, size)

  made_again : made x (stored_in file) ≡ file
  made_again = ap (made x) stored ∙ sym (made_least x passes room)

  pub passes_check : Passes x file
  unfolding ran_with
  passes_check =
      let none-refuses : refusal_for (network_in (asked_in file)) (asked_in file).config ≡ None = ap (λ (y : Inputs). refusal_for (network_in y) y.config) asks ∙ passes in
      let same : made (asked_in file) (stored_in file) ≡ file = ap (λ (y : Inputs). made y (stored_in file)) asks ∙ made_again in
      let into = ran_into x passes (replicate log_size 0) (replicate records_size 0) (replicate (snapshot_size * stored_in file) 0) roomy in
      record {
        passes = check_kept file (made_kept x passes room) ∙ ap Ok (ap (λ (o : Option Refusal). checked_unless o file) none-refuses ∙ same_eq (sym same));
        asks = asks;
        summary = summary_in g;
        ran = ap (λ (o : Outcome). o.answer) into;
        hands = λ i h.
            handed_section file i (made_kept x passes room) h
            ∙ ap (λ (f : List ℕ). section_in f i) (sym made_again ∙ made_run x passes (stored_in file))
            ∙ file_section (sections_fit x passes (stored_in file)) i h
            ∙ ap (λ (ss : List (List ℕ)). get_or ss i []) (sym (sections_are x passes (stored_in file)));
      }

pub filed_passes : FiledPasses
filed_passes x logs records snapshots out n fitting e =
    subst⁻¹ (Passes x) (file_is x logs records snapshots out n e) (passes_check x fitting (was_passed x logs records snapshots out n e).0 (snapshot_room snapshots))

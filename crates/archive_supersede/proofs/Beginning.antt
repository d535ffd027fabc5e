-- The records of a filed run are the beginning of those of one with a larger slot limit. Assumes nothing.
use Prim.Native.Nat.{ℕ, ◌≤◌, ◌<◌}
use mathlib.Core.Path.{◌≡◌, refl, sym, ap, subst, subst⁻¹, ◌∙◌}
use mathlib.Core.Bool.{true, false}
use Rattle.std.specs.Prelude.{Result, Ok}
use Rattle.config.specs.declared.refusal.Refusal.{Refusal}
use mathlib.Core.List.{List, []}
use mathlib.Core.Logic.{⊎_elim}
use native.Mathlib.Omega.{arith}
use borrow.Author.Tests.{ltb-true, ltb-false}
use lib.Dec.{ltb}
use Rattle.network.proofs.Sets.{two}
use Rattle.protocol.specs.Growth.{Continues}
use Rattle.pipeline.specs.Round.{Record}
use Rattle.rules.specs.LargerLimit.{limited_config}
use Rattle.rules.specs.Run.{run}
use Rattle.rules.specs.Entries.{record_numbers, given_for}
use Rattle.rules.proofs.ExactBuffers.{record_numbers_append}
use Rattle.rules.proofs.LargerLimit.{larger_limit_for}
use Rattle.archive.specs.declared.inputs.Inputs.{Inputs}
use Rattle.archive.specs.Bytes.{numbers_bytes, same_bytes}
use Rattle.archive.specs.Inputs.{field_in}
use Rattle.archive.specs.Layout.{records_section, section_in}
use Rattle.archive.proofs.ByteLaws.{numbers_append, same_true}
use Rattle.archive.proofs.InputLaws.{field_of_front}
use Rattle.archive.proofs.Sections.{file_section}
use Rattle.archive_writer.specs.Filed.{network_in}
use Rattle.archive_writer.proofs.Made.{made_run}
use Rattle.archive_writer.proofs.Laws.{sections_fit}
use Rattle.archive_check.specs.Check.{asked_in, stored_in, check_of}
use Rattle.archive_check.proofs.Passing.{kept_yes, passed_is_filed}
use Rattle.archive_supersede.specs.declared.Superseding.{Superseding}
use Rattle.archive_supersede.specs.Supersede.{limit_field, limit_in, other_fields, which_supersedes, part_as, superseding_part}
use Rattle.archive_supersede.specs.Laws.{records_in, other_records, RecordsBegin}
use Rattle.archive_supersede.proofs.Pairs.{Paired, fields_differ_lem, first_supersedes, second_supersedes}

-- ---- the records of a run, as bytes

abbrev records_of : Inputs → List ℕ
records_of x = numbers_bytes (record_numbers (run (given_for (network_in x) x.config)).running.shared.records)

-- a file that passes the check has those of its inputs' run
passed_records : (file : List ℕ) → check_of file ≡ Ok true → records_in file ≡ records_of (asked_in file)
passed_records file e =
    let p = passed_is_filed file e in
    ap records_in (p.bytes ∙ made_run (asked_in file) p.accepted (stored_in file))
    ∙ file_section (sections_fit (asked_in file) p.accepted (stored_in file)) records_section (omega arith)

-- what records begin with, their bytes begin with
bytes_extend : (rs more : List Record) → Continues rs more → Continues (numbers_bytes (record_numbers rs)) (numbers_bytes (record_numbers more))
bytes_extend rs more e = (
  numbers_bytes (record_numbers e.0),
  ap (λ (l : List Record). numbers_bytes (record_numbers l)) e.1
      ∙ ap numbers_bytes (record_numbers_append rs e.0)
      ∙ numbers_append (record_numbers rs) (record_numbers e.0),
)

-- ---- inputs that differ in the slot limit alone

abbrev limited_inputs : ℕ → Inputs → Inputs
limited_inputs limit x = record { topology = x.topology; first = x.first; second = x.second; config = limited_config limit x.config }

module _ (file other : List ℕ) (agree : other_fields file ≡ other_fields other) where
  same_field : (i : ℕ) → i < limit_field → field_in (section_in other 0) i ≡ field_in (section_in file 0) i
  same_field i h =
      sym (field_of_front (section_in other 0) limit_field i h)
      ∙ ap (λ (l : List ℕ). field_in l i) (sym agree)
      ∙ field_of_front (section_in file 0) limit_field i h

  asked_limited : asked_in other ≡ limited_inputs (limit_in other) (asked_in file)
  asked_limited =
      rw (
        same_field 0 (omega arith),
        same_field 1 (omega arith),
        same_field 2 (omega arith),
        same_field 3 (omega arith),
        same_field 4 (omega arith),
        same_field 5 (omega arith),
        same_field 6 (omega arith),
        same_field 7 (omega arith),
        same_field 8 (omega arith),
      )

  -- the one with the larger limit has the records of the other, and then perhaps more
  records_extend : check_of file ≡ Ok true → check_of other ≡ Ok true → limit_in file ≤ limit_in other → Continues (records_in file) (records_in other)
  records_extend e f h =
      let x : Inputs = asked_in file in
      let on = larger_limit_for (network_in x) x.config (limit_in other) h in
      subst⁻¹ (λ (l : List ℕ). Continues l (records_in other)) (passed_records file e)
      (subst⁻¹ (Continues (records_of x)) (passed_records other f ∙ ap records_of asked_limited) (bytes_extend _ _ on.records))

pub records_begin : RecordsBegin
unfolding superseding_part
records_begin first second e f = ⊎_elim agreeing differing (two (same_bytes (other_fields first.now) (other_fields second.now)))
  where
    Begins : Result Superseding Refusal → Type 0
    Begins w = Continues (other_records w first.now second.now) (part_as w first second).bytes

    differing : same_bytes (other_fields first.now) (other_fields second.now) ≡ false → Begins (which_supersedes first.now second.now)
    differing d = subst Begins (fields_differ_lem first.now second.now (kept_yes first.now e) (kept_yes second.now f) d) ([], refl)

    agreeing : same_bytes (other_fields first.now) (other_fields second.now) ≡ true → Begins (which_supersedes first.now second.now)
    agreeing d =
        let same : other_fields first.now ≡ other_fields second.now = same_true _ _ d in
        let pair : Paired first.now second.now = record { first_kept = kept_yes first.now e; second_kept = kept_yes second.now f; agree = d } in
        ⊎_elim
        (λ l.
        let larger : limit_in first.now < limit_in second.now = ltb-true _ _ l in
        subst Begins (second_supersedes first.now second.now pair larger) (records_extend first.now second.now same e f (omega arith)))
        (λ l.
        let larger : limit_in second.now ≤ limit_in first.now = ltb-false _ _ l in
        subst Begins (first_supersedes first.now second.now pair larger) (records_extend second.now first.now (sym same) f e larger))
        (two (ltb (limit_in first.now) (limit_in second.now)))

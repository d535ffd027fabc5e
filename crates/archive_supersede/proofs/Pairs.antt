-- Which of two files supersedes, from the answers to the questions. Assumes nothing.
use Prim.Native.Nat.{ℕ, ◌+◌, ◌≤◌, ◌<◌}
use mathlib.Core.Path.{◌≡◌, subst}
use mathlib.Core.Bool.{true, false}
use mathlib.Core.List.{List}
use mathlib.Core.Logic.{⊎_elim}
use native.Mathlib.Omega.{arith}
use lib.Dec.{ltb}
use lib.ListN.{length}
use borrow.Author.Tests.{lt-ltb, le-ltb, ltb-true, ltb-false}
use Rattle.network.proofs.Sets.{two}
use Rattle.archive.specs.Bytes.{same_bytes}
use Rattle.std.proofs.Common.{Result, Ok, Err}
use Rattle.config.specs.declared.refusal.Refusal.{Refusal}
use Rattle.archive.specs.Layout.{records_section, layout}
use Rattle.archive.proofs.Orders.{keeps, end_inside}
use Rattle.archive_supersede.specs.declared.Superseding.{Superseding}
use Rattle.archive_supersede.specs.declared.Superseding.TheVariants.{First, Second}
use Rattle.archive_supersede.specs.Supersede.{limit_in, other_fields, records_place, which_supersedes}

-- the records of a file that keeps the layout lie within it
records_inside : (file : List ℕ) → layout file ≡ true → (records_place file).offset + (records_place file).length ≤ length file
records_inside file e = end_inside file (keeps file e) records_section (omega arith)

-- two files that no question refuses
pub record Paired (first second : List ℕ) : Type 0 where
  pub first_kept : layout first ≡ true
  pub second_kept : layout second ≡ true
  pub agree : same_bytes (other_fields first) (other_fields second) ≡ true

module _ (first second : List ℕ) where
  pub first_broken : layout first ≡ false → Err Refusal.BrokenLayout ≡ which_supersedes first second
  unfolding which_supersedes
  first_broken e = rw e

  pub second_broken : layout first ≡ true → layout second ≡ false → Err Refusal.BrokenLayout ≡ which_supersedes first second
  unfolding which_supersedes
  second_broken e f = rw (e, f)

  pub fields_differ_lem : layout first ≡ true → layout second ≡ true → same_bytes (other_fields first) (other_fields second) ≡ false
      → Err Refusal.FieldsDiffer ≡ which_supersedes first second
  unfolding which_supersedes
  fields_differ_lem e f d = rw (e, f, d)

  module _ (p : Paired first second) where
    pub second_supersedes : limit_in first < limit_in second → Ok (Second (records_place second)) ≡ which_supersedes first second
    unfolding which_supersedes
    second_supersedes h = rw (p.first_kept, p.second_kept, p.agree, lt-ltb (limit_in first) (limit_in second) h)

    pub first_supersedes : limit_in second ≤ limit_in first → Ok (First (records_place first)) ≡ which_supersedes first second
    unfolding which_supersedes
    first_supersedes h = rw (p.first_kept, p.second_kept, p.agree, le-ltb (limit_in first) (limit_in second) h)

  -- the place lies within its file
  abbrev pub Inside : Result Superseding Refusal → Type 0
  Inside (Ok (First p)) = p.offset + p.length ≤ length first
  Inside (Ok (Second p)) = p.offset + p.length ≤ length second
  Inside (Err r) = Unit {0}

  pub place_inside : Inside (which_supersedes first second)
  place_inside =
      ⊎_elim
      (λ e.
      ⊎_elim
      (λ f.
      ⊎_elim
      (λ d. chosen (record { first_kept = e; second_kept = f; agree = d }))
      (λ d. subst Inside (fields_differ_lem e f d) tt)
      (two (same_bytes (other_fields first) (other_fields second))))
      (λ f. subst Inside (second_broken e f) tt)
      (two (layout second)))
      (λ e. subst Inside (first_broken e) tt)
      (two (layout first))
    where
      chosen : Paired first second → Inside (which_supersedes first second)
      chosen p =
          ⊎_elim
          (λ l. subst Inside (second_supersedes p (ltb-true (limit_in first) (limit_in second) l)) (records_inside second p.second_kept))
          (λ l. subst Inside (first_supersedes p (ltb-false (limit_in first) (limit_in second) l)) (records_inside first p.first_kept))
          (two (ltb (limit_in first) (limit_in second)))

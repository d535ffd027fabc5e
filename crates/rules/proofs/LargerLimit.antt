-- A run with a larger slot limit goes on where the one with the smaller limit stopped. Assumes nothing.
use Prim.Native.Nat.{ℕ, zero, suc, ◌≤◌}
use mathlib.Core.Bool.{true, false}
use mathlib.Core.List.{[], ◌∷◌}
use mathlib.Core.Logic.{⊎_elim}
use mathlib.Core.Path.{◌≡◌, refl, ap, subst⁻¹, ◌∙◌}
use native.Mathlib.Omega.{arith}
use borrow.Author.Tests.{leb-false, lt-leb}
use lib.Dec.{leb, eqb}
use Rattle.config.specs.Limits.{most_rounds}
use Rattle.network.proofs.Sets.{two}
use Rattle.protocol.proofs.Growing.{continues_refl, continues_trans}
use Rattle.pipeline.specs.Round.{Prepared, initiator_of}
use Rattle.pipeline.proofs.RecordsGrow.{prepared_grow, processed_grow}
use Rattle.rules.specs.Entries.{given_for}
use Rattle.rules.specs.LargerLimit.{limited_given, GoesOn, LargerLimit, LargerLimitFor}
use Rattle.rules.specs.Run.{Given, Running, Ended, begin, prepared_in, flooded_in, past_in, run_round, end_after, rounds_from, run_for}
use Rattle.rules.proofs.Ends.{from_limit, from_next, from_end, along_rounds}

-- ---- one run

on_refl : (r : Running) → GoesOn r r
on_refl r = record { rounds = continues_refl r.rounds; records = continues_refl r.shared.records }

on_trans : {r s t : Running} → GoesOn r s → GoesOn s t → GoesOn r t
on_trans {r} {s} {t} a b =
    record {
      rounds = continues_trans r.rounds s.rounds t.rounds a.rounds b.rounds;
      records = continues_trans r.shared.records s.shared.records t.shared.records a.records b.records;
    }

-- a round is added, and perhaps records
on_round : (g : Given) (k : ℕ) (r : Running) → GoesOn r (run_round g k r)
unfolding run_round
on_round g k r =
    let prepared : Prepared = prepared_in g k r in
    record {
      rounds = (past_in g k r ∷ [], refl);
      records =
          continues_trans r.shared.records prepared.shared.records _
          (prepared_grow g.nodes g.proposals (initiator_of g.nodes k) r.standing.slot r.shared)
          (processed_grow g.nodes prepared.packet (flooded_in g k r).after.slot (flooded_in g k r).part prepared.shared);
    }

-- what was run stays to the end
on_through : (g : Given) (most k : ℕ) (r : Running) → GoesOn r (rounds_from g most k r).running
on_through g most k r =
    (along_rounds g (λ _ x. GoesOn r x) (λ j x now. on_trans now (on_round g j x)) most k r (on_refl r)).holds

-- ---- two runs

module _ (g : Given) (limit : ℕ) (larger : g.limit ≤ limit) where
  abbrev later : Given
  later = limited_given limit g

  -- a round that starts below the smaller limit starts below the larger
  starts_too : (r : Running) → leb g.limit r.standing.slot ≡ false → leb limit r.standing.slot ≡ false
  starts_too r b = lt-leb limit r.standing.slot (omega (arith, leb-false g.limit r.standing.slot b))

  -- the slot limit has no part in a round, nor in the ends that are tested behind it
  same_round : (k : ℕ) (r : Running) → run_round later k r ≡ run_round g k r
  unfolding run_round
  same_round k r = refl

  same_end : (k : ℕ) (r : Running) → end_after later k (run_round later k r) ≡ end_after g k (run_round g k r)
  unfolding run_round end_after
  same_end k r = refl

  -- so both runs stand at the same place until the smaller limit ends the one
  on_from : (most k : ℕ) (r : Running) → GoesOn (rounds_from g most k r).running (rounds_from later most k r).running
  unfolding rounds_from
  on_from zero k r = on_refl r
  on_from (suc most) k r =
      ⊎_elim
      (λ b. subst⁻¹ (λ (x : Ended). GoesOn x.running (rounds_from later (suc most) k r).running) (from_limit g most k r b) (on_through later (suc most) k r))
      (λ b. ⊎_elim (next b (on_from most (suc k) (run_round g k r))) (ends b) (two (eqb (end_after g k (run_round g k r)) 0)))
      (two (leb g.limit r.standing.slot))
    where
      Both : Ended → Ended → Type 0
      Both x y = GoesOn x.running y.running

      both : {x y x' y' : Ended} → x ≡ x' → y ≡ y' → Both x' y' → Both x y
      both {x} {y} {x'} {y'} p q w = subst⁻¹ (λ (z : Ended). Both z y) p (subst⁻¹ (Both x') q w)

      next : leb g.limit r.standing.slot ≡ false → Both (rounds_from g most (suc k) (run_round g k r)) (rounds_from later most (suc k) (run_round g k r)) →
          eqb (end_after g k (run_round g k r)) 0 ≡ true → Both (rounds_from g (suc most) k r) (rounds_from later (suc most) k r)
      next b rest f =
          both (from_next g most k r b f)
          (from_next later most k r (starts_too r b) (ap (λ (e : ℕ). eqb e 0) (same_end k r) ∙ f) ∙ ap (rounds_from later most (suc k)) (same_round k r)) rest

      ends : leb g.limit r.standing.slot ≡ false → eqb (end_after g k (run_round g k r)) 0 ≡ false →
          Both (rounds_from g (suc most) k r) (rounds_from later (suc most) k r)
      ends b f =
          both (from_end g most k r b f) (from_end later most k r (starts_too r b) (ap (λ (e : ℕ). eqb e 0) (same_end k r) ∙ f))
          (subst⁻¹ (GoesOn (run_round g k r)) (same_round k r) (on_refl (run_round g k r)))

pub larger_limit : LargerLimit
unfolding run_for
larger_limit g limit larger = on_from g limit larger (most_rounds g.proposals) 0 (begin g)

pub larger_limit_for : LargerLimitFor
larger_limit_for q c limit larger = larger_limit (given_for q c) limit larger

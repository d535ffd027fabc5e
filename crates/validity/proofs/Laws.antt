-- What the validity of a configuration says of a run of it. Assumes nothing.
use Prim.Native.Nat.{ℕ, ◌≤◌}
use mathlib.Core.Path.{◌≡◌, refl, sym, ap, ap₂, ◌∙◌}
use mathlib.Core.Bool.{Bool, true, false, cond, ◌||◌}
use mathlib.Core.List.{[], ◌∷◌}
use mathlib.Core.Logic.{◌⊎◌, inl, inr, ⊎_elim}
use Rattle.std.specs.Prelude.{Option, Some, None, Result, Ok, Err}
use native.Mathlib.Omega.{arith}
use lib.Dec.{eqb}
use borrow.Author.Tests.{eqb-true, leb-false, le-leb}
use Rattle.config.specs.Limits.{max_repeats, max_round_slots}
use Rattle.config.specs.declared.Config.{Config}
use Rattle.config.specs.declared.refusal.Refusal.{Refusal}
use Rattle.config.specs.Refusals.{number_of}
use Rattle.network.specs.Questions.{within, first_no}
use Rattle.network.proofs.Sets.{never, or_either}
use Rattle.network.proofs.Within.{within_both, first_yes}
use Rattle.rules.specs.Networks.{RowsOrTopology, of_rows, of_topology, network_questions}
use Rattle.rules.specs.Questions.{slots_allowed, slots_suffice, other_questions, config_questions, questions_for, refusal_for}
use Rattle.rules.specs.Run.{Given, run}
use Rattle.rules.specs.Entries.{summary_of, given_for}
use Rattle.rules.proofs.FirstNo.{numbered, first_numbered, both_none, either_no}
use Rattle.rules.proofs.Found.{network_yes}
use Rattle.rules.proofs.Admitted.{admitted, admits, refuses}
use Rattle.validity.specs.declared.Validity.{Validity}
use Rattle.validity.specs.declared.Validity.TheVariants.{Current, Outdated}
use Rattle.validity.specs.Validity.{short_round, validity_for, validity_number}
use Rattle.validity.specs.Laws.{CurrentRuns, without_round_slots, OutdatedAlone, OutdatedRefused, RefusedToo, NumbersTell}
use Rattle.validity.proofs.Numbers.{number_tells}
use Rattle.validity.proofs.Refusals.{validity_by, outdated_unless, before16, short_first, network_other, validity_for_lem}

-- ---- which refusals there are, from the validity

-- what the first refusal and the first behind 16 are
current_none : (o behind : Option Refusal) → validity_by o behind ≡ Ok Current → o ≡ None
current_none None behind e = refl
current_none (Some k) behind e = go (eqb (number_of k) short_round) behind e
  where
    go : (b : Bool) (x : Option Refusal) → cond b (outdated_unless x) (Err k) ≡ Ok Current → Some k ≡ None
    go true None p = let z : ◌≡◌ {A = ℕ} 0 1 = cc in absurd (omega arith)
    go true (Some j) p = let z : ◌≡◌ {A = ℕ} 0 1 = cc in absurd (omega arith)
    go false x p = let z : ◌≡◌ {A = ℕ} 0 1 = cc in absurd (omega arith)

outdated_short : (o behind : Option Refusal) → validity_by o behind ≡ Ok Outdated → (o ≡ Some Refusal.ShortRound) × (behind ≡ None)
outdated_short None behind e = let z : ◌≡◌ {A = ℕ} 0 1 = cc in absurd (omega arith)
outdated_short (Some k) behind e = go (eqb (number_of k) short_round) refl behind e
  where
    go : (b : Bool) → eqb (number_of k) short_round ≡ b → (x : Option Refusal) → cond b (outdated_unless x) (Err k) ≡ Ok Outdated → (Some k ≡ Some Refusal.ShortRound) × (x ≡ None)
    go true q None p = (ap Some (number_tells k Refusal.ShortRound (eqb-true (number_of k) short_round q)), refl)
    go true q (Some j) p = let z : ◌≡◌ {A = ℕ} 0 1 = cc in absurd (omega arith)
    go false q x p = let z : ◌≡◌ {A = ℕ} 0 1 = cc in absurd (omega arith)

refused_either : (o behind : Option Refusal) (j : Refusal) → validity_by o behind ≡ Err j → ((o ≡ Some j) × (eqb (number_of j) short_round ≡ false)) ⊎ ((o ≡ Some Refusal.ShortRound) × (behind ≡ Some j))
refused_either None behind j e = let z : ◌≡◌ {A = ℕ} 0 1 = cc in absurd (omega arith)
refused_either (Some k) behind j e = go (eqb (number_of k) short_round) refl behind e
  where
    go : (b : Bool) → eqb (number_of k) short_round ≡ b → (x : Option Refusal) → cond b (outdated_unless x) (Err k) ≡ Err j
        → ((Some k ≡ Some j) × (eqb (number_of j) short_round ≡ false)) ⊎ ((Some k ≡ Some Refusal.ShortRound) × (x ≡ Some j))
    go true q None p = let z : ◌≡◌ {A = ℕ} 0 1 = cc in absurd (omega arith)
    go true q (Some i) p = inr (ap Some (number_tells k Refusal.ShortRound (eqb-true (number_of k) short_round q)), cc)
    go false q x p = let is : k ≡ j = cc in inl (ap Some is, ap (λ (i : Refusal). eqb (number_of i) short_round) (sym is) ∙ q)

-- the validity by the refusals of this configuration
module _ (q : RowsOrTopology) (c : Config) {v : Result Validity Refusal} (e : validity_for q c ≡ v) where
  told : validity_by (refusal_for q c) (first_no (other_questions c)) ≡ v
  told = sym (validity_for_lem q c) ∙ e

-- ---- the laws

pub current_runs : CurrentRuns
current_runs q c logs records snapshots long-logs long-records = (
  (λ e.
      let g : Given = given_for q c in
      (summary_of g (run g), admits q c logs records snapshots (current_none _ _ (told q c e)) (record { for_logs = long-logs; for_records = long-records }))),
  (λ r. validity_for_lem q c ∙ ap (λ (o : Option Refusal). validity_by o (first_no (other_questions c))) (admitted q c logs records snapshots r.0 r.1).passes),
)

pub outdated_refused : OutdatedRefused
outdated_refused q c logs records snapshots e = refuses q c logs records snapshots Refusal.ShortRound (outdated_short _ _ (told q c e)).0

-- the round slots are within their limit where they are below repeats that are
short_allowed : (repeats : ℕ) (slots : Option ℕ) → within 1 max_repeats repeats ≡ true → slots_suffice repeats slots ≡ false → slots_allowed slots ≡ true
short_allowed repeats None few short = refl
short_allowed repeats (Some m) few short = le-leb m max_round_slots (omega (arith, leb-false repeats m short, within_both 1 max_repeats repeats few))

module _ (q : RowsOrTopology) (c : Config) where
  abbrev suffice : Bool
  suffice = slots_suffice c.flood_repeats c.round_slots

  abbrev few : Bool
  few = within 1 max_repeats c.flood_repeats

  -- 16 alone refuses: the network passes, the repeats pass, the round slots don't suffice, and all behind them passes
  alone_there : validity_for q c ≡ Ok Outdated → (suffice ≡ false) × (refusal_for q (without_round_slots c) ≡ None)
  unfolding refusal_for
  alone_there e =
      let o = outdated_short _ _ (told q c e) in
      let h = ⊎_elim (λ p. never refl (network_other q Refusal.ShortRound p)) (λ p. p) (either_no (network_questions q) (config_questions c) Refusal.ShortRound o.0) in
      let s = short_first (before16 c) (other_questions c) suffice refl refl h.1 in
      let f = first_yes (few, Refusal.RepeatCount) ((slots_allowed c.round_slots, Refusal.RoundLength) ∷ []) s.0 in
      (s.1, network_yes q (without_round_slots c) h.0 ∙ rw f.0 o.1)

  alone_back : suffice ≡ false → refusal_for q (without_round_slots c) ≡ None → validity_for q c ≡ Ok Outdated
  unfolding refusal_for
  alone_back short e =
      let y = both_none (network_questions q) (config_questions (without_round_slots c)) e in
      let f = first_yes (few, Refusal.RepeatCount) ((true, Refusal.RoundLength) ∷ (true, Refusal.ShortRound) ∷ other_questions c) y.1 in
      let first : refusal_for q c ≡ Some Refusal.ShortRound
      = network_yes q c y.0 ∙ rw (f.0, short_allowed c.flood_repeats c.round_slots f.0 short, short) in
      validity_for_lem q c ∙ ap₂ validity_by first f.1

pub outdated_alone : OutdatedAlone
outdated_alone q c = (alone_there q c, λ h. alone_back q c h.0 h.1)

-- k is one of 1 to 9 where it is told as refused
refused_low : (q : RowsOrTopology) (c : Config) (k : Refusal) → validity_for q c ≡ Err k → (1 ≤ number_of k) × (number_of k ≤ 9)
unfolding refusal_for
refused_low q c k e =
    within_both 1 9 (number_of k)
    (⊎_elim
    (λ h. ⊎_elim (λ p. p) (λ p. never p h.1) (or_either (within 1 9 (number_of k)) (eqb (number_of k) short_round) (first_numbered asked (questions_for q c) k (all_asked q) h.0)))
    (λ h. first_numbered (λ r. within 1 9 (number_of r)) (other_questions c) k refl h.1)
    (refused_either _ _ k (told q c e)))
  where
    asked : Refusal → Bool
    asked j = within 1 9 (number_of j) || eqb (number_of j) short_round

    all_asked : (x : RowsOrTopology) → numbered asked (questions_for x c) ≡ true
    all_asked (of_rows rows n) = refl
    all_asked (of_topology topology first second) = refl

pub refused_too : RefusedToo
refused_too q c logs records snapshots k e = (
  refused_low q c k e,
  ⊎_elim (λ h. inl (refuses q c logs records snapshots k h.0)) (λ h. inr (refuses q c logs records snapshots Refusal.ShortRound h.0, h.1))
      (refused_either _ _ k (told q c e)),
)

pub numbers_tell : NumbersTell
numbers_tell q q' c c' same = go (validity_for q c) (validity_for q' c') (refused_low q c) (refused_low q' c') same
  where
    -- a refusal's number is neither 0 nor 16
    go : (v w : Result Validity Refusal) → ((k : Refusal) → v ≡ Err k → (1 ≤ number_of k) × (number_of k ≤ 9)) → ((k : Refusal) → w ≡ Err k → (1 ≤ number_of k) × (number_of k ≤ 9)) → validity_number number_of v ≡ validity_number number_of w → v ≡ w
    go (Ok Current) (Ok Current) f g e = refl
    go (Ok Current) (Ok Outdated) f g e = absurd (omega (arith, e))
    go (Ok Current) (Err k) f g e = absurd (omega (arith, e, g k refl))
    go (Ok Outdated) (Ok Current) f g e = absurd (omega (arith, e))
    go (Ok Outdated) (Ok Outdated) f g e = refl
    go (Ok Outdated) (Err k) f g e = absurd (omega (arith, e, g k refl))
    go (Err j) (Ok Current) f g e = absurd (omega (arith, e, f j refl))
    go (Err j) (Ok Outdated) f g e = absurd (omega (arith, e, f j refl))
    go (Err j) (Err k) f g e = ap Err (number_tells j k e)

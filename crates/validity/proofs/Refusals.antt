-- The refusals of a configuration one by one, and its validity from the first of them. Assumes nothing.
use Prim.Native.Nat.{ℕ}
use mathlib.Core.Path.{◌≡◌, refl, sym, ap, ◌∙◌}
use mathlib.Core.Bool.{Bool, true, false, not, cond}
use mathlib.Core.List.{List, [], ◌∷◌, ◌++◌}
use mathlib.Core.Logic.{⊎_elim}
use Rattle.std.specs.Prelude.{Option, Some, None, Result, Ok, Err}
use native.Mathlib.Omega.{arith}
use lib.Dec.{eqb}
use borrow.Author.Tests.{not-true, eqb-true}
use Rattle.config.specs.declared.Config.{Config}
use Rattle.config.specs.Limits.{max_repeats}
use Rattle.config.specs.declared.refusal.Refusal.{Refusal}
use Rattle.config.specs.Refusals.{number_of}
use Rattle.network.specs.Questions.{within, first_no}
use Rattle.network.proofs.Sets.{two, never}
use Rattle.network.proofs.Within.{first_yes}
use Rattle.rules.specs.Networks.{RowsOrTopology, of_rows, of_topology, network_questions}
use Rattle.rules.specs.Questions.{slots_allowed, slots_suffice, other_questions, config_questions, refusal_for}
use Rattle.rules.proofs.FirstNo.{numbered, first_numbered, either_no}
use Rattle.rules.proofs.Found.{network_no, network_yes}
use Rattle.validity.specs.declared.Validity.{Validity}
use Rattle.validity.specs.declared.Validity.TheVariants.{Current, Outdated}
use Rattle.validity.proofs.Numbers.{number_tells}
use Rattle.validity.specs.Validity.{every_no, short_round, validity_as, validity_of, validity_for}

-- ---- every refusal, from the first

every_none : (qs : List (Bool × Refusal)) → first_no qs ≡ None → every_no qs ≡ []
every_none [] e = refl
every_none (q ∷ qs) e = let r = first_yes q qs e in rw r.0 (every_none qs r.1)

every_some : (qs : List (Bool × Refusal)) (k : Refusal) → first_no qs ≡ Some k → (rest : List Refusal) × (every_no qs ≡ k ∷ rest)
every_some [] k e = let z : ◌≡◌ {A = ℕ} 0 1 = cc in absurd (omega arith)
every_some (q ∷ qs) k e = go q.0 refl (every_some qs k)
  where
    go : (b : Bool) → q.0 ≡ b → (first_no qs ≡ Some k → (rest : List Refusal) × (every_no qs ≡ k ∷ rest)) → (rest : List Refusal) × (every_no (q ∷ qs) ≡ k ∷ rest)
    go true p on = let r = on (rw p at e) in (r.0, rw p r.1)
    go false p on = let f : Some q.1 ≡ Some k = rw p at e in let is : q.1 ≡ k = cc in (every_no qs, rw p (ap (λ (x : Refusal). x ∷ every_no qs) is))

-- of questions that pass and of those behind them
every_behind : (qs more : List (Bool × Refusal)) → first_no qs ≡ None → every_no (qs ++ more) ≡ every_no more
every_behind [] more e = refl
every_behind (q ∷ qs) more e = let r = first_yes q qs e in rw r.0 (every_behind qs more r.1)

-- ---- the validity, from the first refusal and from the first behind 16

abbrev pub outdated_unless : Option Refusal → Result Validity Refusal
outdated_unless None = Ok Outdated
outdated_unless (Some k) = Err k

abbrev pub validity_by : Option Refusal → Option Refusal → Result Validity Refusal
validity_by None behind = Ok Current
validity_by (Some k) behind = cond (eqb (number_of k) short_round) (outdated_unless behind) (Err k)

-- it is not 16
abbrev other : Refusal → Bool
other k = not (eqb (number_of k) short_round)

-- the first refusal is not 16
first_other_lem : (k : Refusal) (rest : List Refusal) → eqb (number_of k) short_round ≡ false → validity_as (k ∷ rest) ≡ Err k
first_other_lem k [] e = rw e
first_other_lem k (j ∷ rest) e = rw e

-- it is 16, and these are those behind it
behind_short : (behind : List (Bool × Refusal)) → numbered other behind ≡ true → validity_as (Refusal.ShortRound ∷ every_no behind) ≡ outdated_unless (first_no behind)
behind_short behind others = go (first_no behind) refl
  where
    go : (o : Option Refusal) → first_no behind ≡ o → validity_as (Refusal.ShortRound ∷ every_no behind) ≡ outdated_unless o
    go None e = ap (λ (l : List Refusal). validity_as (Refusal.ShortRound ∷ l)) (every_none behind e)
    go (Some k) e =
        let r = every_some behind k e in
        ap (λ (l : List Refusal). validity_as (Refusal.ShortRound ∷ l)) r.1 ∙ rw (not-true (eqb (number_of k) short_round) (first_numbered other behind k others e))

-- the questions of a configuration before 16
abbrev pub before16 : Config → List (Bool × Refusal)
before16 c = (within 1 max_repeats c.flood_repeats, Refusal.RepeatCount) ∷ (slots_allowed c.round_slots, Refusal.RoundLength) ∷ []

-- questions before 16, 16 itself, and those behind it
module _ (before behind : List (Bool × Refusal)) (b : Bool) (first : numbered other before ≡ true) (last : numbered other behind ≡ true) where
  abbrev asked : List (Bool × Refusal)
  asked = before ++ (b, Refusal.ShortRound) ∷ behind

  -- 16 is the first refusal: those before it pass
  pub short_first : first_no asked ≡ Some Refusal.ShortRound → (first_no before ≡ None) × (b ≡ false)
  short_first e =
      ⊎_elim (λ p. never (first_numbered other before Refusal.ShortRound first p) refl) (λ p. (p.0, no b p.1))
      (either_no before ((b, Refusal.ShortRound) ∷ behind) Refusal.ShortRound e)
    where
      no : (x : Bool) → first_no ((x, Refusal.ShortRound) ∷ behind) ≡ Some Refusal.ShortRound → x ≡ false
      no true p = never (first_numbered other behind Refusal.ShortRound last p) refl
      no false p = refl

  pub validity_by_lem : validity_of asked ≡ validity_by (first_no asked) (first_no behind)
  validity_by_lem = go (first_no asked) refl
    where
      go : (o : Option Refusal) → first_no asked ≡ o → validity_of asked ≡ validity_by o (first_no behind)
      go None e = ap validity_as (every_none asked e)
      go (Some k) e =
          ⊎_elim
          (λ p.
          let s = short_first (e ∙ ap Some (number_tells k Refusal.ShortRound (eqb-true (number_of k) short_round p))) in
          let every : every_no asked ≡ Refusal.ShortRound ∷ every_no behind = every_behind before ((b, Refusal.ShortRound) ∷ behind) s.0 ∙ rw s.1 in
          rw p (ap validity_as every ∙ behind_short behind last))
          (λ p. let r = every_some asked k e in rw p (ap validity_as r.1 ∙ first_other_lem k r.0 p))
          (two (eqb (number_of k) short_round))

-- ---- a configuration, by itself and for a network

pub validity_config : (c : Config) → validity_of (config_questions c) ≡ validity_by (first_no (config_questions c)) (first_no (other_questions c))
validity_config c = validity_by_lem (before16 c) (other_questions c) (slots_suffice c.flood_repeats c.round_slots) refl refl

-- the first refusal is another than 16
pub of_other : (c : Config) (k : Refusal) → first_no (config_questions c) ≡ Some k → eqb (number_of k) short_round ≡ false → Err k ≡ validity_of (config_questions c)
of_other c k e ne = sym (validity_config c ∙ ap (λ (o : Option Refusal). validity_by o (first_no (other_questions c))) e ∙ rw ne)

pub validity_for_lem : (q : RowsOrTopology) (c : Config) → validity_for q c ≡ validity_by (refusal_for q c) (first_no (other_questions c))
unfolding validity_for refusal_for
validity_for_lem (of_rows rows n) c =
    validity_by_lem (network_questions (of_rows rows n) ++ before16 c) (other_questions c) (slots_suffice c.flood_repeats c.round_slots) refl refl
validity_for_lem (of_topology topology first second) c =
    validity_by_lem (network_questions (of_topology topology first second) ++ before16 c) (other_questions c) (slots_suffice c.flood_repeats c.round_slots) refl refl

-- no question of the network is 16
pub network_other : (q : RowsOrTopology) (k : Refusal) → first_no (network_questions q) ≡ Some k → eqb (number_of k) short_round ≡ false
network_other q k e = not-true (eqb (number_of k) short_round) (first_numbered other (network_questions q) k (asked_of q) e)
  where
    asked_of : (x : RowsOrTopology) → numbered other (network_questions x) ≡ true
    asked_of (of_rows rows n) = refl
    asked_of (of_topology topology first second) = refl

-- the network's questions refuse it, or let it pass
module _ (q : RowsOrTopology) (c : Config) where
  pub network_refuses : (k : Refusal) → first_no (network_questions q) ≡ Some k → Err k ≡ validity_for q c
  network_refuses k e =
      sym (validity_for_lem q c ∙ ap (λ (o : Option Refusal). validity_by o (first_no (other_questions c))) (network_no q c k e) ∙ rw (network_other q k e))

  pub network_passes : first_no (network_questions q) ≡ None → validity_of (config_questions c) ≡ validity_for q c
  network_passes e = validity_config c ∙ sym (validity_for_lem q c ∙ ap (λ (o : Option Refusal). validity_by o (first_no (other_questions c))) (network_yes q c e))

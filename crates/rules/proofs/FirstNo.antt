-- The questions in order, and what those that pass leave. Assumes nothing.
use Prim.Native.Nat.{ℕ, ◌≤◌}
use mathlib.Core.Path.{◌≡◌, refl, sym, ap, subst, ◌∙◌}
use mathlib.Core.Bool.{Bool, true, false, cond, ◌&&◌}
use mathlib.Core.List.{List, [], ◌∷◌, ◌++◌}
use mathlib.Core.Logic.{◌⊎◌, inl, inr}
use Rattle.std.specs.Prelude.{Some, None, Result, Ok, Err}
use Rattle.std.specs.Result.{IsErrAnd}
use Rattle.std.proofs.lemmas.Result.{err_from_is_err_and}
use Rattle.std.specs.Option.{option_or}
use native.Mathlib.Omega.{arith}
use borrow.Author.Tests.{leb-true}
use lib.Dec.{leb}
use Rattle.config.specs.declared.refusal.Refusal.{Refusal}
use Rattle.config.proofs.Unless.{passed}
use Rattle.config.specs.declared.Config.{Config}
use Rattle.config.specs.Limits.{max_terms, max_repeats, log_size, records_size}
use Rattle.network.specs.Questions.{first_no}
use Rattle.network.proofs.Sets.{and_both}
use Rattle.network.proofs.Within.{within_both, first_yes}
use Rattle.rules.specs.Questions.{slots_allowed, slots_suffice, config_questions, buffer_questions, asked}

-- both parts pass
pub both_none : (qs more : List (Bool × Refusal)) → first_no (qs ++ more) ≡ None → (first_no qs ≡ None) × (first_no more ≡ None)
both_none [] more e = (refl, e)
both_none (q ∷ qs) more e =
    let r = first_yes q (qs ++ more) e in
    let both = both_none qs more r.1 in
    (rw r.0 both.0, both.1)

-- the first "no" is in the one part or in the other
pub either_no : (qs more : List (Bool × Refusal)) (k : Refusal) → first_no (qs ++ more) ≡ Some k → (first_no qs ≡ Some k) ⊎ ((first_no qs ≡ None) × (first_no more ≡ Some k))
either_no [] more k e = inr (refl, e)
either_no (q ∷ qs) more k e = go q.0 e (either_no qs more k)
  where
    go : (b : Bool) → cond b (first_no (qs ++ more)) (Some q.1) ≡ Some k
        → (first_no (qs ++ more) ≡ Some k → (first_no qs ≡ Some k) ⊎ ((first_no qs ≡ None) × (first_no more ≡ Some k)))
        → (cond b (first_no qs) (Some q.1) ≡ Some k) ⊎ ((cond b (first_no qs) (Some q.1) ≡ None) × (first_no more ≡ Some k))
    go true e rest = rest e
    go false e rest = inl e

-- f holds of the refusal of every question
abbrev pub numbered : (Refusal → Bool) → List (Bool × Refusal) → Bool
numbered f [] = true
numbered f (q ∷ qs) = f q.1 && numbered f qs

-- so it holds of the first refusal's
pub first_numbered : (f : Refusal → Bool) (qs : List (Bool × Refusal)) (k : Refusal) → numbered f qs ≡ true → first_no qs ≡ Some k → f k ≡ true
first_numbered f [] k h e = let z : ◌≡◌ {A = ℕ} 0 1 = cc in absurd (omega arith)
first_numbered f (q ∷ qs) k h e =
    let b = and_both (f q.1) (numbered f qs) h in
    go q.0 refl b.0 (first_numbered f qs k b.1)
  where
    go : (b : Bool) → q.0 ≡ b → f q.1 ≡ true → (first_no qs ≡ Some k → f k ≡ true) → f k ≡ true
    go true p one rest = rest (rw p at e)
    go false p one rest = let g : Some q.1 ≡ Some k = rw p at e in let is : q.1 ≡ k = cc in subst (λ (x : Refusal). f x ≡ true) is one

-- every question is answered "yes"
abbrev Yes : List (Bool × Refusal) → Type 0
Yes [] = Unit {0}
Yes (q ∷ qs) = (q.0 ≡ true) × Yes qs

yes : (qs : List (Bool × Refusal)) → first_no qs ≡ None → Yes qs
yes [] e = tt
yes (q ∷ qs) e = let r = first_yes q qs e in (r.0, yes qs r.1)

-- the first of two refusals is that of all their questions
pub first_of_both : (qs more : List (Bool × Refusal)) → first_no (qs ++ more) ≡ option_or (first_no qs) (first_no more)
first_of_both [] more = refl
first_of_both (q ∷ qs) more = go q.0 (first_of_both qs more)
  where
    go : (b : Bool) → first_no (qs ++ more) ≡ option_or (first_no qs) (first_no more)
        → cond b (first_no (qs ++ more)) (Some q.1) ≡ option_or (cond b (first_no qs) (Some q.1)) (first_no more)
    go true rest = rest
    go false rest = refl

-- nothing refuses it
pub let_pass : (qs : List (Bool × Refusal)) → Ok tt ≡ asked qs → first_no qs ≡ None
let_pass qs e = (passed tt (first_no qs) tt (sym e)).0

-- ---- what the questions leave
pub record Passed (c : Config) : Type 0 where
  pub repeats : (1 ≤ c.flood_repeats) × (c.flood_repeats ≤ max_repeats)
  pub slots : slots_allowed c.round_slots ≡ true
  pub suffice : slots_suffice c.flood_repeats c.round_slots ≡ true
  pub proposals : c.num_proposals ≤ max_terms
  pub interval : 1 ≤ c.snapshot_interval

pub config_facts : (c : Config) → first_no (config_questions c) ≡ None → Passed c
config_facts c e =
    let y = yes (config_questions c) e in
    record {
      repeats = within_both 1 max_repeats c.flood_repeats y.0;
      slots = y.1.0;
      suffice = y.1.1.0;
      proposals = leb-true c.num_proposals max_terms y.1.1.1.1.0;
      interval = leb-true 1 c.snapshot_interval y.1.1.1.1.1.0;
    }

-- question 10 is the only one put to the buffers
pub buffer_no : (logs records : ℕ) (k : Refusal) → first_no (buffer_questions logs records) ≡ Some k → k ≡ Refusal.ShortBuffers
buffer_no logs records k e = go (leb log_size logs && leb records_size records) e
  where
    go : (b : Bool) → cond b None (Some Refusal.ShortBuffers) ≡ Some k → k ≡ Refusal.ShortBuffers
    go true e = let z : ◌≡◌ {A = ℕ} 0 1 = cc in absurd (omega arith)
    go false e = cc

pub buffer_facts : (logs records : ℕ) → first_no (buffer_questions logs records) ≡ None → (log_size ≤ logs) × (records_size ≤ records)
buffer_facts logs records e =
    let y = yes (buffer_questions logs records) e in
    let long = and_both (leb log_size logs) (leb records_size records) y.0 in
    (leb-true log_size logs long.0, leb-true records_size records long.1)

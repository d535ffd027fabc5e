-- What is logged, by entries. Assumes nothing.
use Rattle.std.specs.Prelude.{Option, Some, None}
use Prim.Native.Nat.{ℕ, zero, suc, ◌<◌}
use mathlib.Core.Bool.{Bool, true, false, cond, ◌||◌, or-true}
use mathlib.Core.List.{List, [], ◌∷◌, ◌++◌}
use mathlib.Core.Path.{◌≡◌, refl, sym, ap, ap₂, ◌∙◌, subst}
use native.Mathlib.Omega.{arith}
use borrow.Author.Tests.{eq-eqb}
use lib.Dec.{eqb}
use Rattle.random.specs.Table.{tabulate}
use Rattle.network.specs.declared.units.Term.{Term}
use Rattle.protocol.specs.Paxos.{LogEntry, logged, find}
use Rattle.protocol.specs.View.{Distinct}
use Rattle.protocol.proofs.Places.{eqb_sym, same_or}

pub or_left_false : (a b : Bool) → (a || b) ≡ false → a ≡ false
or_left_false true b e = e
or_left_false false b e = refl

pub or_right_false : (a b : Bool) → (a || b) ≡ false → b ≡ false
or_right_false true b e = absurd (subst (λ (x : Bool). cond x (Unit {0}) ⊥) e tt)
or_right_false false b e = e

or_assoc : (a b c : Bool) → (a || (b || c)) ≡ ((a || b) || c)
or_assoc true b c = refl
or_assoc false b c = refl

pub logged_append : (t : ℕ) (l m : List LogEntry) → logged t (l ++ m) ≡ (logged t l || logged t m)
unfolding logged
logged_append t [] m = refl
logged_append t (e ∷ l) m = ap (λ (x : Bool). eqb t e.term || x) (logged_append t l m) ∙ or_assoc (eqb t e.term) (logged t l) (logged t m)

pub distinct_append : (l : List LogEntry) (e : LogEntry) → Distinct l → logged e.term l ≡ false → Distinct (l ++ e ∷ [])
unfolding Distinct logged
distinct_append [] e d h = (refl, tt)
distinct_append (x ∷ l) e d h = (
  (logged_append x.term l (e ∷ []) ∙ ap₂ (λ (a b : Bool). a || (b || false)) d.0
      (eqb_sym x.term e.term ∙ or_left_false (eqb e.term x.term) (logged e.term l) h)),
  distinct_append l e d.1 (or_right_false (eqb e.term x.term) (logged e.term l) h),
)

-- each entry of a log is logged
pub logged_each : (n : ℕ) (f : ℕ → LogEntry) (k : ℕ) → k < n → logged (f k).term (tabulate n f) ≡ true
unfolding logged tabulate
logged_each zero f k h = absurd (omega arith)
logged_each (suc n) f zero h = rw (eq-eqb (f zero).term (f zero).term refl)
logged_each (suc n) f (suc k) h =
    ap (λ (b : Bool). eqb (f (suc k)).term (f zero).term || b) (logged_each n (λ (i : ℕ). f (suc i)) k (omega arith)) ∙
    or-true (eqb (f (suc k)).term (f zero).term)

-- where a term's data are those of the term, a logged term is found with them
pub find_by_term : (d : ℕ → Option Term) (t n : ℕ) (f : ℕ → LogEntry) → ((k : ℕ) → (f k).«data» ≡ d (f k).term) →
    find t (tabulate n f) ≡ cond (logged t (tabulate n f)) (Some (d t)) None
unfolding logged find tabulate
find_by_term d t zero f h = refl
find_by_term d t (suc n) f h =
    same_or
    (λ (b : Bool). cond b (Some (f zero).«data») (find t (tabulate n (λ (i : ℕ). f (suc i)))) ≡
    cond (b || logged t (tabulate n (λ (i : ℕ). f (suc i)))) (Some (d t)) None)
    t (f zero).term
    (λ q. ap {B = Option (Option Term)} Some (h zero ∙ ap d (sym q)))
    (λ _. find_by_term d t n (λ (i : ℕ). f (suc i)) (λ k. h (suc k)))

-- How many numbers below n are so. Assumes nothing.
use Prim.Native.Nat.{ℕ, zero, suc, ◌+◌, ◌≤◌, ◌<◌}
use mathlib.Core.Path.{◌≡◌, refl, sym, ap, ◌∙◌}
use mathlib.Core.Bool.{Bool, true, false, cond}
use mathlib.Core.Logic.{⊎_elim}
use native.Mathlib.Nat.{add-zero, zero-add, add-suc, eq-or-lt_of_le, le_of_suc-le-suc}
use native.Mathlib.Omega.{arith}
use Rattle.network.specs.Graph.{count}
use Rattle.network.proofs.Sets.{count_le}

-- below n, and from n on
pub count_split : (n m : ℕ) (f : ℕ → Bool) → count (n + m) f ≡ count n f + count m (λ (k : ℕ). f (n + k))
unfolding count
count_split n zero f = ap (λ (k : ℕ). count k f) (add-zero n) ∙ sym (add-zero (count n f))
count_split n (suc m) f =
    ap (λ (k : ℕ). count k f) (add-suc n m) ∙ omega (arith, count_split n m f)

-- the first of them, and the others
pub count_first : (n : ℕ) (f : ℕ → Bool) → count (suc n) f ≡ cond (f 0) 1 0 + count n (λ (k : ℕ). f (suc k))
unfolding count
count_first zero f = zero-add (cond (f 0) 1 0) ∙ sym (add-zero (cond (f 0) 1 0))
count_first (suc n) f = omega (arith, count_first n f)

-- where as many are so as there are numbers, each is
pub count_full : (n : ℕ) (f : ℕ → Bool) → count n f ≡ n → (k : ℕ) → k < n → f k ≡ true
unfolding count
count_full zero f e k h = absurd (omega arith)
count_full (suc n) f e k h = ⊎_elim (λ p. ap f p ∙ full (f n) (omega (arith, e, count_le n f))) (λ l. count_full n f (omega (arith, e, count_le n f, most (f n))) k l) (eq-or-lt_of_le (le_of_suc-le-suc h))
  where
    most : (b : Bool) → cond b 1 0 ≤ 1
    most true = omega arith
    most false = omega arith

    full : (b : Bool) → 1 ≤ cond b 1 0 → b ≡ true
    full true l = refl
    full false l = absurd (omega arith)

-- as many as there are numbers, where all are so
pub count_all : (n : ℕ) (f : ℕ → Bool) → ((k : ℕ) → k < n → f k ≡ true) → count n f ≡ n
unfolding count
count_all zero f h = refl
count_all (suc n) f h = omega (arith, count_all n f (λ k b. h k (omega arith)), ap {B = ℕ} (λ (b : Bool). cond b 1 0) (h n (omega arith)))

-- none of them
pub count_none : (n : ℕ) (f : ℕ → Bool) → ((k : ℕ) → k < n → f k ≡ false) → count n f ≡ 0
unfolding count
count_none zero f h = refl
count_none (suc n) f h = omega (arith, count_none n f (λ k b. h k (omega arith)), ap {B = ℕ} (λ (b : Bool). cond b 1 0) (h n (omega arith)))

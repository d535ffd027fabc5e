-- A number in decimal: its first digits, its last, and how many. Assumes nothing.
use Prim.Native.Nat.{ℕ, zero, suc, ◌+◌, ◌/◌, ◌%◌, ◌^◌, ◌≤◌, ◌<◌}
use mathlib.Core.Path.{◌≡◌, refl, ap}
use mathlib.Core.Bool.{Bool, true, false}
use mathlib.Core.List.{List, [], ◌∷◌, ◌++◌}
use native.Mathlib.Nat.{div-lt_iff_lt-mul, pow-suc}
use native.Mathlib.Omega.{arith}
use lib.Dec.{ltb}
use lib.ListN.{length, length-append}
use borrow.Author.Tests.{lt-ltb, le-ltb, ltb-true, ltb-false}
use Rattle.text.specs.Text.{spelled_in, spelled}

-- more room changes nothing
enough : (k k' n : ℕ) → n < k → n < k' → spelled_in k n ≡ spelled_in k' n
unfolding spelled_in
enough zero k' n h h' = absurd (omega arith)
enough (suc k) zero n h h' = absurd (omega arith)
enough (suc k) (suc k') n h h' = case (enough k k' (n / 10)) (ltb n 10) refl
  where
    case : (n / 10 < k → n / 10 < k' → spelled_in k (n / 10) ≡ spelled_in k' (n / 10)) → (t : Bool) → ltb n 10 ≡ t
        → ◌≡◌ {A = List ℕ} (elim t [ true ↦ (48 + n) ∷ [] | false ↦ spelled_in k (n / 10) ++ ((48 + n % 10) ∷ []) ])
        (elim t [ true ↦ (48 + n) ∷ [] | false ↦ spelled_in k' (n / 10) ++ ((48 + n % 10) ∷ []) ])
    case ih true e = refl
    case ih false e = let ten = ltb-false n 10 e in ap (λ s. s ++ ((48 + n % 10) ∷ [])) (ih (omega arith) (omega arith))

pub spelled_low : (n : ℕ) → n < 10 → spelled n ≡ (48 + n) ∷ []
unfolding spelled spelled_in
spelled_low n h = rw (lt-ltb n 10 h, spelled_in)

pub spelled_high : (n : ℕ) → 10 ≤ n → spelled n ≡ spelled (n / 10) ++ ((48 + n % 10) ∷ [])
unfolding spelled spelled_in
spelled_high n h = rw (le-ltb n 10 h, spelled_in) (ap (λ s. s ++ ((48 + n % 10) ∷ [])) (enough n (suc (n / 10)) (n / 10) (omega arith) (omega arith)))

-- a number below 10^k has at most k digits
pub spelled_short : (k n : ℕ) → 1 ≤ k → n < 10 ^ k → length (spelled n) ≤ k
spelled_short zero n one h = absurd (omega arith)
spelled_short (suc k) n one h = case k (spelled_short k (n / 10)) (ltb n 10) refl h
  where
    case : (k : ℕ) → (1 ≤ k → n / 10 < 10 ^ k → length (spelled (n / 10)) ≤ k) → (t : Bool) → ltb n 10 ≡ t → n < 10 ^ suc k → length (spelled n) ≤ suc k
    case k ih true e h = rw (spelled_low n (ltb-true n 10 e)) (omega arith)
    case zero ih false e h = absurd (omega (arith, ltb-false n 10 e))
    case (suc j) ih false e h =
        let fits = ih (omega arith) ((div-lt_iff_lt-mul (omega arith)).1 (rw (pow-suc 10 (suc j)) at h)) in
        rw (spelled_high n (ltb-false n 10 e)) (omega (arith, fits, length-append (spelled (n / 10)) ((48 + n % 10) ∷ [])))

-- The places of a queue whose first follows its last. Assumes nothing.
use Prim.Native.Nat.{ℕ, ◌+◌, ◌-◌, ◌≤◌, ◌<◌}
use mathlib.Core.Path.{◌≡◌, ap}
use mathlib.Core.Bool.{Bool, cond}
use mathlib.Core.Logic.{◌⊎◌, inl, inr, ⊎_elim}
use native.Mathlib.Omega.{arith}
use lib.Dec.{ltb}
use borrow.Author.Tests.{ltb-true, ltb-false}
use Rattle.network.proofs.Sets.{two}
use Rattle.phy.specs.View.{place_after}

abbrev On : ℕ → ℕ → ℕ → ℕ → Type 0
On all p i q = ((p + i < all) × (q ≡ p + i)) ⊎ ((all ≤ p + i) × (q ≡ p + i - all))

place_is : (all p i : ℕ) → On all p i (place_after all p i)
place_is all p i =
    ⊎_elim (λ e. inl (ltb-true (p + i) all e, ap (λ (b : Bool). cond b (p + i) (p + i - all)) e)) (λ e. inr (ltb-false (p + i) all e, ap (λ (b : Bool). cond b (p + i) (p + i - all)) e))
    (two (ltb (p + i) all))

pub place_first : (all p : ℕ) → p < all → place_after all p 0 ≡ p
place_first all p h = go (place_is all p 0)
  where
    go : On all p 0 (place_after all p 0) → place_after all p 0 ≡ p
    go (inl w) = omega (arith, w.0, w.1)
    go (inr w) = omega (arith, w.0, w.1)

pub place_lt : (all p i : ℕ) → p < all → i ≤ all → place_after all p i < all
place_lt all p i h l = go (place_is all p i)
  where
    go : On all p i (place_after all p i) → place_after all p i < all
    go (inl w) = omega (arith, w.0, w.1)
    go (inr w) = omega (arith, w.0, w.1)

-- another place than the one before it in the queue
pub place_other : (all p i : ℕ) → p < all → 0 < i → i < all → place_after all p i ≡ p → ⊥
place_other all p i h k l e = go (place_is all p i)
  where
    go : On all p i (place_after all p i) → ⊥
    go (inl w) = omega (arith, w.0, w.1, e)
    go (inr w) = omega (arith, w.0, w.1, e)

-- a place counted from the next one on
pub place_then : (all p i : ℕ) → p < all → i + 1 < all → place_after all (place_after all p 1) i ≡ place_after all p (i + 1)
place_then all p i h l = go (place_is all p 1) (place_is all (place_after all p 1) i) (place_is all p (i + 1))
  where
    go : On all p 1 (place_after all p 1) → On all (place_after all p 1) i (place_after all (place_after all p 1) i) → On all p (i + 1) (place_after all p (i + 1))
        → place_after all (place_after all p 1) i ≡ place_after all p (i + 1)
    go (inl u) (inl v) (inl w) = omega (arith, u.0, u.1, v.0, v.1, w.0, w.1)
    go (inl u) (inl v) (inr w) = omega (arith, u.0, u.1, v.0, v.1, w.0, w.1)
    go (inl u) (inr v) (inl w) = omega (arith, u.0, u.1, v.0, v.1, w.0, w.1)
    go (inl u) (inr v) (inr w) = omega (arith, u.0, u.1, v.0, v.1, w.0, w.1)
    go (inr u) (inl v) (inl w) = omega (arith, u.0, u.1, v.0, v.1, w.0, w.1)
    go (inr u) (inl v) (inr w) = omega (arith, u.0, u.1, v.0, v.1, w.0, w.1)
    go (inr u) (inr v) (inl w) = omega (arith, u.0, u.1, v.0, v.1, w.0, w.1)
    go (inr u) (inr v) (inr w) = omega (arith, u.0, u.1, v.0, v.1, w.0, w.1)

-- the last place from the next one on is this one
pub place_last : (all p i : ℕ) → p < all → i + 1 ≡ all → place_after all (place_after all p 1) i ≡ p
place_last all p i h l = go (place_is all p 1) (place_is all (place_after all p 1) i)
  where
    go : On all p 1 (place_after all p 1) → On all (place_after all p 1) i (place_after all (place_after all p 1) i) → place_after all (place_after all p 1) i ≡ p
    go (inl u) (inl v) = omega (arith, u.0, u.1, v.0, v.1)
    go (inl u) (inr v) = omega (arith, u.0, u.1, v.0, v.1)
    go (inr u) (inl v) = omega (arith, u.0, u.1, v.0, v.1)
    go (inr u) (inr v) = omega (arith, u.0, u.1, v.0, v.1)

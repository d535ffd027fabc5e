-- The set of all terms below n, and sets that have them all. Assumes nothing.
use Prim.Native.Nat.{ℕ, zero, suc, ◌+◌, ◌-◌, ◌%◌, ◌^◌, ◌<◌}
use mathlib.Core.Path.{◌≡◌, refl, sym, ap, ap₂, ◌∙◌}
use mathlib.Core.Bool.{Bool, true, cond, ◌&&◌}
use native.Mathlib.Nat.{pow-suc, mod-lt}
use native.Mathlib.Omega.{arith}
use lib.Bits.{bit_and}
use lib.Dec.{eqb}
use lib.Pow.{pow_pos}
use borrow.Author.Tests.{eqb-true, eq-eqb}
use Rattle.network.specs.Graph.{has, set_of, all}
use Rattle.network.proofs.Sets.{and_both, same, all_elim, all_intro, has_low, has_set_of, set_ext}
use Rattle.phy.proofs.Masks.{has_and}

pub full_set : (n : ℕ) (f : ℕ → Bool) → ((j : ℕ) → j < n → f j ≡ true) → set_of n f + 1 ≡ 2 ^ n
unfolding set_of
full_set zero f h = refl
full_set (suc n) f h =
    ap (λ (b : Bool). set_of n f + cond b (2 ^ n) 0 + 1) (h n (omega arith))
    ∙ omega (arith, full_set n f (λ j b. h j (omega arith)), pow-suc 2 n)

full_bit : (n j : ℕ) → j < n → has (2 ^ n - 1) j ≡ true
full_bit n j h =
    let e : 2 ^ n - 1 ≡ set_of n (λ (k : ℕ). true) = omega (arith, full_set n (λ (k : ℕ). true) (λ k b. refl)) in
    ap (λ (s : ℕ). has s j) e ∙ has_set_of n (λ (k : ℕ). true) j h

-- a set has all of them when its lowest n digits are all 1
pub has_all : (n s : ℕ) → eqb (s % 2 ^ n) (2 ^ n - 1) ≡ all n (has s)
has_all n s =
    same
    (λ e. all_intro n (has s) (λ j h. sym (has_low s n j h) ∙ ap (λ (x : ℕ). has x j) (eqb-true (s % 2 ^ n) (2 ^ n - 1) e) ∙ full_bit n j h))
    (λ e. eq-eqb (s % 2 ^ n) (2 ^ n - 1) (set_ext n (mod-lt s (pow_pos n)) (omega (arith, pow_pos n)) (λ j h. has_low s n j h ∙ all_elim n (has s) e j h ∙ sym (full_bit n j h))))

-- two sets both have all of them when their intersection does
pub all_and : (n a b : ℕ) → all n (has (bit_and a b)) ≡ all n (has a) && all n (has b)
all_and n a b =
    same
    (λ e.
    let at : (j : ℕ) → j < n → (has a j ≡ true) × (has b j ≡ true) = λ j h. and_both (has a j) (has b j) (sym (has_and a b j) ∙ all_elim n (has (bit_and a b)) e j h) in
    ap₂ ◌&&◌ (all_intro n (has a) (λ j h. (at j h).0)) (all_intro n (has b) (λ j h. (at j h).1)))
    (λ e.
    let r = and_both (all n (has a)) (all n (has b)) e in
    all_intro n (has (bit_and a b)) (λ j h. has_and a b j ∙ ap₂ ◌&&◌ (all_elim n (has a) r.0 j h) (all_elim n (has b) r.1 j h)))

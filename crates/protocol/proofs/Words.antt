-- Sets of terms in a word, and what the code's operators do with them. Assumes nothing.
use Prim.Native.Nat.{ℕ, zero, suc, ◌+◌, ◌-◌, ◌%◌, ◌^◌, ◌<◌, ◌≤◌}
use mathlib.Core.Bool.{Bool, true, false, cond, ◌||◌}
use mathlib.Core.Logic.{◌⊎◌, inl, inr}
use mathlib.Core.Path.{◌≡◌, refl, sym, ap, ◌∙◌, subst}
use native.Mathlib.Nat.{pow-suc, mod-lt, lt_of_lt_of_le}
use native.Mathlib.Omega.{arith}
use borrow.Author.Tests.{leb-true, leb-false, le-leb, lt-leb}
use lib.Bits.{bit_or, or_lt}
use lib.Count.{ones}
use lib.Dec.{eqb, leb}
use lib.Pow.{pow_pos, pow_mono, pow-lt}
use Rattle.network.specs.Graph.{has, set_of}
use Rattle.network.proofs.Sets.{set_ext, has_or, has_out, has_low, has_set_of}
use Rattle.network.proofs.Lowest.{no_bit_of}
use Rattle.protocol.specs.Paxos.{size}
use Rattle.protocol.proofs.Places.{either}
use Rattle.protocol.proofs.Sets.{vote_bit, union_or, size_ones, size_more}

-- ---- one term

bit_is : (b : Bool) → eqb (cond b 1 0) 1 ≡ b
bit_is true = refl
bit_is false = refl

pub has_pow : (i j : ℕ) → has (2 ^ i) j ≡ eqb j i
unfolding has
has_pow i j = ap (λ (x : ℕ). eqb x 1) (vote_bit i j) ∙ bit_is (eqb j i)

pub has_with : (p t j : ℕ) → has (bit_or p (2 ^ t)) j ≡ (has p j || eqb j t)
has_with p t j = has_or p (2 ^ t) j ∙ ap (λ (b : Bool). has p j || b) (has_pow t j)

-- ---- how many terms

-- one more
pub ones_with : (p t : ℕ) → p < 2 ^ 64 → t < 64 → has p t ≡ false → ones (bit_or p (2 ^ t)) ≡ ones p + 1
ones_with p t h l e =
    sym (size_ones (bit_or p (2 ^ t)) (or_lt 64 p (2 ^ t) h (pow-lt l))) ∙
    ap size (sym (union_or p (2 ^ t) h (pow-lt l))) ∙
    size_more p t l (no_bit_of p t e) ∙
    ap (λ (x : ℕ). x + 1) (size_ones p h)

-- ---- a set of terms below n is a number below 2 ^ n

below_pow : (p : ℕ) → p < 2 ^ p
below_pow zero = omega arith
below_pow (suc p) = omega (arith, below_pow p, pow-suc 2 p)

pub in_word : (n p : ℕ) → ((t : ℕ) → n ≤ t → has p t ≡ false) → p < 2 ^ n
in_word n p h =
    subst (λ (x : ℕ). x < 2 ^ n) (sym same) (mod-lt p (pow_pos n))
  where
    wide : p < 2 ^ (p + n)
    wide = lt_of_lt_of_le (below_pow p) (pow_mono {i = p} {j = p + n} (omega arith))

    bits : (j : ℕ) → (leb n j ≡ true) ⊎ (leb n j ≡ false) → has p j ≡ has (p % 2 ^ n) j
    bits j (inl w) = h j (leb-true n j w) ∙ sym (has_out {n = n} (mod-lt p (pow_pos n)) j (leb-true n j w))
    bits j (inr w) = sym (has_low p n j (leb-false n j w))

    same : p ≡ p % 2 ^ n
    same =
        set_ext (p + n) wide
        (lt_of_lt_of_le (mod-lt p (pow_pos n)) (pow_mono {i = n} {j = p + n} (omega arith)))
        (λ j l. bits j (either (leb n j)))

-- ---- the terms up to u

pub reach_all : (n u : ℕ) → n ≤ suc u → set_of n (λ (t : ℕ). leb t u) ≡ 2 ^ n - 1
unfolding set_of
reach_all zero u h = refl
reach_all (suc n) u h =
    rw (le-leb n u (omega arith), reach_all n u (omega arith)) (omega (arith, pow-suc 2 n, pow_pos n))

reach_past : (d u : ℕ) → set_of (d + suc u) (λ (t : ℕ). leb t u) ≡ 2 ^ suc u - 1
unfolding set_of
reach_past zero u =
    let e : zero + suc u ≡ suc u = omega arith in
    rw e (reach_all (suc u) u (omega arith))
reach_past (suc d) u =
    let e : suc d + suc u ≡ suc (d + suc u) = omega arith in
    rw (e, lt-leb (d + suc u) u (omega arith), reach_past d u) (omega arith)

pub reach_is : (u : ℕ) → u < 64 → set_of 64 (λ (t : ℕ). leb t u) ≡ 2 ^ suc u - 1
reach_is u h =
    let e : 64 ≡ (63 - u) + suc u = omega arith in
    subst (λ (n : ℕ). set_of n (λ (t : ℕ). leb t u) ≡ 2 ^ suc u - 1) (sym e) (reach_past (63 - u) u)

pub has_reach : (u t : ℕ) → t < 64 → has (set_of 64 (λ (k : ℕ). leb k u)) t ≡ leb t u
has_reach u t h = has_set_of 64 (λ (k : ℕ). leb k u) t h

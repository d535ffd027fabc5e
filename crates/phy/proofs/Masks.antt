-- Sets of nodes in a word. Assumes nothing.
use Prim.Native.Nat.{ℕ, zero, suc, ◌+◌, ◌*◌, ◌/◌, ◌%◌, ◌^◌, ◌<◌}
use mathlib.Core.Path.{◌≡◌, refl, sym, ap, subst, ◌∙◌}
use mathlib.Core.Bool.{Bool, true, false, cond, ◌&&◌, ◌||◌, and-false, or-false, or_comm}
use mathlib.Core.Logic.{⊎_elim}
use native.Mathlib.Nat.{mod-lt, not-suc-le-zero, le_of_suc-le-suc}
use native.Mathlib.Omega.{arith}
use lib.Dec.{eqb}
use lib.Bits.{bit_and, bit_or, and_shr, and_mod, and_lt, or_lt, or_disjoint}
use lib.Pow.{pow_pos, pow-lt}
use borrow.Author.Tests.{eqb-true}
use Rattle.network.specs.Graph.{has, set_of}
use Rattle.network.proofs.Lowest.{has_zero}
use Rattle.network.proofs.Sets.{two, has_or, has_one, set_ext, set_of_cong, set_of_has, one_shl}
use Rattle.phy.specs.Slot.{insert}

-- the intersection
pub has_and : (s t j : ℕ) → has (bit_and s t) j ≡ has s j && has t j
unfolding has
has_and s t j =
    ap (λ (x : ℕ). eqb x 1) (ap (λ (x : ℕ). x % 2) (and_shr s t j) ∙ and_mod (s / 2 ^ j) (t / 2 ^ j) 1)
    ∙ digit (s / 2 ^ j % 2) (t / 2 ^ j % 2) (mod-lt (s / 2 ^ j) (omega arith)) (mod-lt (t / 2 ^ j) (omega arith))
  where
    digit : (x y : ℕ) → x < 2 → y < 2 → eqb (bit_and x y) 1 ≡ eqb x 1 && eqb y 1
    digit zero y hx hy = refl
    digit (suc zero) zero hx hy = refl
    digit (suc zero) (suc zero) hx hy = refl
    digit (suc zero) (suc (suc y)) hx hy = absurd (not-suc-le-zero (le_of_suc-le-suc (le_of_suc-le-suc hy)))
    digit (suc (suc x)) y hx hy = absurd (not-suc-le-zero (le_of_suc-le-suc (le_of_suc-le-suc hx)))

module _ (w : ℕ) {s j : ℕ} (small : s < 2 ^ w) (in_word : j < w) where
  or_bit : bit_or s (2 ^ j) ≡ insert j s
  unfolding insert
  or_bit = ⊎_elim present missing (two (has s j))
    where
      same : has s j ≡ true → (k : ℕ) → k < w → has s k || has (2 ^ j) k ≡ has s k
      same p k h =
          ⊎_elim
          (λ e. ap (λ (b : Bool). has s k || b) e ∙ ap (λ (b : Bool). b || true) (found (has_one w j k in_word h) e) ∙ sym (found (has_one w j k in_word h) e))
          (λ e. ap (λ (b : Bool). has s k || b) e ∙ or-false (has s k))
          (two (has (2 ^ j) k))
        where
          found : has (2 ^ j) k ≡ eqb k j → has (2 ^ j) k ≡ true → has s k ≡ true
          found q e = ap (has s) (eqb-true k j (sym q ∙ e)) ∙ p

      apart : has s j ≡ false → (k : ℕ) → k < w → has s k && has (2 ^ j) k ≡ false
      apart p k h =
          ⊎_elim
          (λ e. ap (λ (b : Bool). b && has (2 ^ j) k) (ap (has s) (eqb-true k j (sym (has_one w j k in_word h) ∙ e)) ∙ p))
          (λ e. ap (λ (b : Bool). has s k && b) e ∙ and-false (has s k))
          (two (has (2 ^ j) k))

      present : has s j ≡ true → bit_or s (2 ^ j) ≡ cond (has s j) s (s + 2 ^ j)
      present p =
          set_ext w (or_lt w s (2 ^ j) small (pow-lt in_word)) small (λ k h. has_or s (2 ^ j) k ∙ same p k h)
          ∙ ap (λ (b : Bool). cond b s (s + 2 ^ j)) (sym p)

      missing : has s j ≡ false → bit_or s (2 ^ j) ≡ cond (has s j) s (s + 2 ^ j)
      missing p =
          or_disjoint s (2 ^ j) (set_ext w (and_lt w s (2 ^ j) small (pow-lt in_word)) (pow_pos w) (λ k h. has_and s (2 ^ j) k ∙ apart p k h ∙ sym (has_zero k)))
          ∙ ap (λ (b : Bool). cond b s (s + 2 ^ j)) (sym p)

  -- the code's way to put a node into a set
  pub or_shifted_bit : bit_or s (1 * 2 ^ j % 2 ^ w) ≡ insert j s
  or_shifted_bit = ap (bit_or s) (one_shl w j in_word) ∙ or_bit

  pub has_insert : (k : ℕ) → k < w → has (insert j s) k ≡ eqb k j || has s k
  has_insert k h = ap (λ (x : ℕ). has x k) (sym or_bit) ∙ has_or s (2 ^ j) k ∙ ap (λ (b : Bool). has s k || b) (has_one w j k in_word h) ∙ or_comm (has s k) (eqb k j)

  pub insert_lt : insert j s < 2 ^ w
  insert_lt = subst (λ (x : ℕ). x < 2 ^ w) or_bit (or_lt w s (2 ^ j) small (pow-lt in_word))

-- a set of nodes below n, by its nodes
pub set_is : (n : ℕ) {s : ℕ} (f : ℕ → Bool) → s < 2 ^ n → ((j : ℕ) → j < n → has s j ≡ f j) → s ≡ set_of n f
set_is n {s} f h e = sym (set_of_has n s h) ∙ set_of_cong n e

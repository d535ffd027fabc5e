-- Rotations of words: that the code's two shifts make one, and where each bit goes. Assumes nothing.
use Rattle.std.proofs.Common.{◌≡◌, ℕ, zero, suc, ◌+◌, ◌-◌, ◌*◌, ◌/◌, ◌%◌, ◌^◌, ◌<◌, ◌≤◌, sym, ap, ◌∙◌, subst, ap₂, lt_of_le_of_lt, add-zero, le_of_lt, mod-lt, mod-eq_of_lt, add-sub_of_le, add_comm, zero-add, mul-one, sub-add_cancel, div-one, arith, pow_pos, shr_lt}
use native.Mathlib.Nat.{mod-one, mul-mod_left}
use native.Mathlib.Decide.{dec_lt}
use lib.Pow.{shr_le, shl-shr, high, low, mod-pow-add}
use lib.Bits.{bit_or, or_comm, or_self, or_lt, or_shifted}
use Rattle.random.specs.Word.{rotate_left, rotate_right, bit, RotatedRight}
use Rattle.random.proofs.Bits.{bit_low, bit_high, same_bits}

-- ---- a word of w = j + k bits, moved up by k and moved down by j

moved_up : {w : ℕ} (j k x : ℕ) → j + k ≡ w → x * 2 ^ k % 2 ^ w ≡ x % 2 ^ j * 2 ^ k
moved_up j k x e =
    ap (λ (w : ℕ). x * 2 ^ k % 2 ^ w) (sym e)
    ∙ mod-pow-add (x * 2 ^ k) j k
    ∙ ap₂ (λ (u v : ℕ). u % 2 ^ j * 2 ^ k + v) (shl-shr x k) (mul-mod_left x (2 ^ k))
    ∙ add-zero (x % 2 ^ j * 2 ^ k)

-- the two share no bit
both_shifts : {w : ℕ} (j k x : ℕ) → j + k ≡ w → x < 2 ^ w → bit_or (x * 2 ^ k % 2 ^ w) (x / 2 ^ j) ≡ x % 2 ^ j * 2 ^ k + x / 2 ^ j
both_shifts j k x e h =
    rw (moved_up j k x e) (or_shifted (x % 2 ^ j) k (x / 2 ^ j) (shr_lt k j (subst (λ (w : ℕ). x < 2 ^ w) (sym e ∙ add_comm j k) h)))

-- ---- the code's rotations

pub shifts_rotate_left : (x k : ℕ) → x < 2 ^ 32 → k ≤ 32 → bit_or (x * 2 ^ k % 2 ^ 32) (x / 2 ^ (32 - k)) ≡ rotate_left x k
unfolding rotate_left
shifts_rotate_left x k hx hk =
    let e : 32 - k + k ≡ 32 = sub-add_cancel hk in
    both_shifts (32 - k) k x e hx ∙ ap (λ (u : ℕ). u + x / 2 ^ (32 - k)) (sym (moved_up (32 - k) k x e))

-- by 0 both shifts give the whole word
pub shifts_rotate_right : (x k : ℕ) → x < 2 ^ 32 → k < 32 → bit_or (x / 2 ^ k) (x * 2 ^ ((32 - k) % 32) % 2 ^ 32) ≡ rotate_right x k
unfolding rotate_right
shifts_rotate_right x zero hx hk =
    ap₂ bit_or (div-one x) (ap (λ (u : ℕ). u % 2 ^ 32) (mul-one x) ∙ mod-eq_of_lt hx)
    ∙ or_self x
    ∙ sym (ap₂ (λ (u v : ℕ). u * 2 ^ 32 + v) (mod-one x) (div-one x) ∙ zero-add x)
shifts_rotate_right x (suc m) hx hk =
    let k = suc m in
    ap (λ (c : ℕ). bit_or (x / 2 ^ k) (x * 2 ^ c % 2 ^ 32)) (mod-eq_of_lt (omega arith))
    ∙ or_comm (x / 2 ^ k) (x * 2 ^ (32 - k) % 2 ^ 32)
    ∙ both_shifts k (32 - k) x (add-sub_of_le (le_of_lt hk)) hx

rotated_lt : (x k : ℕ) → x < 2 ^ 32 → k < 32 → rotate_right x k < 2 ^ 32
rotated_lt x k hx hk =
    subst (λ (r : ℕ). r < 2 ^ 32) (shifts_rotate_right x k hx hk)
    (or_lt 32 (x / 2 ^ k) (x * 2 ^ ((32 - k) % 32) % 2 ^ 32) (lt_of_le_of_lt (shr_le x k) hx) (mod-lt (x * 2 ^ ((32 - k) % 32)) (pow_pos 32)))

-- ---- where each bit goes

-- a word of j + k bits, its k low bits put above the others: a low bit moves up by j
turned_up : (j k x i : ℕ) → x < 2 ^ (j + k) → i < k → bit (x % 2 ^ k * 2 ^ j + x / 2 ^ k) (j + i) ≡ bit x i
turned_up j k x i hx hi =
    sym (bit_high (x % 2 ^ k * 2 ^ j + x / 2 ^ k) j i) ∙ ap (λ (u : ℕ). bit u i) (high (x % 2 ^ k) j (shr_lt j k hx)) ∙ bit_low x k i hi

-- and each of the others moves down by k
turned_down : (j k x i : ℕ) → x < 2 ^ (j + k) → i < j → bit (x % 2 ^ k * 2 ^ j + x / 2 ^ k) i ≡ bit x (k + i)
turned_down j k x i hx hi =
    sym (bit_low (x % 2 ^ k * 2 ^ j + x / 2 ^ k) j i hi) ∙ ap (λ (u : ℕ). bit u i) (low (x % 2 ^ k) j (shr_lt j k hx)) ∙ bit_high x k i

-- the right rotation takes bit i to bit (i - k) modulo 32
pub rotates_right : (x k : ℕ) → x < 2 ^ 32 → k < 32 → RotatedRight x k (rotate_right x k)
unfolding rotate_right
rotates_right x k hx hk i hi = sym (go (dec_lt i k))
  where
    fits : x < 2 ^ (32 - k + k)
    fits = subst (λ (w : ℕ). x < 2 ^ w) (sym (sub-add_cancel (le_of_lt hk))) hx

    go : Dec (i < k) → bit (rotate_right x k) ((32 + i - k) % 32) ≡ bit x i
    go (yes l) =
        let place : (32 + i - k) % 32 ≡ 32 - k + i = omega arith in
        ap (bit (rotate_right x k)) place ∙ turned_up (32 - k) k x i fits l
    go (no l) =
        let place : (32 + i - k) % 32 ≡ i - k = omega (arith, l) in
        let back : k + (i - k) ≡ i = omega (arith, l) in
        ap (bit (rotate_right x k)) place ∙ turned_down (32 - k) k x (i - k) fits (omega arith) ∙ ap (bit x) back

-- and no other word has its bits where a rotation takes them
pub only_rotated : (x k r : ℕ) → x < 2 ^ 32 → k < 32 → r < 2 ^ 32 → RotatedRight x k r → r ≡ rotate_right x k
only_rotated x k r hx hk hr h =
    same_bits 32 hr (rotated_lt x k hx hk)
    (λ i hi.
    let from = (i + k) % 32 in
    let place : (32 + from - k) % 32 ≡ i = omega arith in
    ap (bit r) (sym place) ∙ sym (h from (omega arith)) ∙ rotates_right x k hx hk from (omega arith) ∙ ap (bit (rotate_right x k)) place)

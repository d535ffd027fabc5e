-- Bits of numbers. Assumes nothing.
use Rattle.std.proofs.Common.{◌≡◌, ℕ, zero, suc, ◌+◌, ◌*◌, ◌/◌, ◌%◌, ◌^◌, ◌<◌, sym, ap, ◌∙◌, ap₂, mod-lt, one-add, arith, pow_pos, shr-shr}
use native.Mathlib.Nat.{le_dest}
use lib.Pow.{shr_mod, split, field, mod-mod-pow}
use Rattle.random.specs.Word.{bit}

-- bit i of the j low bits
pub bit_low : (x j i : ℕ) → i < j → bit (x % 2 ^ j) i ≡ bit x i
bit_low x j i h =
    let r = le_dest h in
    let e : r.0 + 1 + i ≡ j = omega (arith, r.1) in
    ap (λ (m : ℕ). x % 2 ^ m / 2 ^ i % 2) (sym e) ∙ ap (λ (u : ℕ). u % 2) (field x (r.0 + 1) i) ∙ mod-mod-pow (x / 2 ^ i) r.0 1

-- bit i of what is above the j low bits
pub bit_high : (x j i : ℕ) → bit (x / 2 ^ j) i ≡ bit x (j + i)
bit_high x j i = ap (λ (u : ℕ). u % 2) (shr-shr x j i)

-- a number of w bits is its bits
pub same_bits : (w : ℕ) {s t : ℕ} → s < 2 ^ w → t < 2 ^ w → ((i : ℕ) → i < w → bit s i ≡ bit t i) → s ≡ t
same_bits zero hs ht e = omega arith
same_bits (suc w) {s} {t} hs ht e =
    let rest : s % 2 ^ w ≡ t % 2 ^ w =
    same_bits w (mod-lt s (pow_pos w)) (mod-lt t (pow_pos w)) (λ i h. bit_low s w i h ∙ e i (omega arith) ∙ sym (bit_low t w i h)) in
    let top : s / 2 ^ w ≡ t / 2 ^ w = sym (shr_mod 1 w (rw one-add hs)) ∙ e w (omega arith) ∙ shr_mod 1 w (rw one-add ht) in
    sym (split s w) ∙ ap₂ (λ (u v : ℕ). u * 2 ^ w + v) top rest ∙ split t w

-- The draw's fraction m / 2^53 is exact as an f64, and one multiplication gives it. Assumes nothing.
use Rattle.std.proofs.Common.{◌≡◌, ℕ, zero, suc, ◌/◌, ◌^◌, ◌<◌, ◌≤◌, false, pos, negsuc, sym, refl, ap, ◌∙◌, lt_of_lt_of_le, zero-lt-suc, mul_assoc, mul-one, arith, lit<, lit≤, shl_lt}
use lib.Ieee.{fin, binary64, round, mul, of_int, of_bits}
use lib.Ieee.Exact.{HasValue, round_exact}
use lib.Ieee.Back.{round_whole}
use lib.Ieee.Positive.{positive_of_value, mul_at}
use Rattle.random.specs.Reception.{fraction}

-- a draw has 64 bits, so its top 53 are below 2^53
top_bits : (d : ℕ) → d < 2 ^ 64 → d / 2 ^ 11 < 2 ^ 53
top_bits d h = omega arith

-- the fraction is the number m / 2^53 itself: nothing is rounded
pub fraction_exact : (d : ℕ) → d < 2 ^ 64 → HasValue (fraction d) false (d / 2 ^ 11) (2 ^ 53)
unfolding fraction
fraction_exact d h =
    let m = d / 2 ^ 11 in
    let small : m < 2 ^ 53 = top_bits d h in
    round_exact binary64 false m (2 ^ 53) m 1021 (lit< tt) small (lt_of_lt_of_le (shl_lt 53 1021 small) (lit≤ tt)) (sym (mul_assoc m (2 ^ 1021) (2 ^ 53)))

step_is : of_bits binary64 0x3ca0_0000_0000_0000 ≡ fin false 1 (negsuc 52)
unfolding of_bits
step_is = refl

scaled : (m : ℕ) → m ≤ 2 ^ 53 → mul binary64 (of_int binary64 (pos m)) (fin false 1 (negsuc 52)) ≡ round binary64 false m (2 ^ 53)
unfolding mul of_int round
scaled zero h = refl
scaled (suc k) h =
    let m = suc k in
    let v = round_whole binary64 false m h in
    mul_at binary64 (round binary64 false m 1) (fin false 1 (negsuc 52)) m 1 1 (2 ^ 53) (positive_of_value (round binary64 false m 1) m 1 v (zero-lt-suc k)) tt (lit< tt) (lit< tt) v (refl, refl)
    ∙ ap (λ (x : ℕ). round binary64 false x (2 ^ 53)) (mul-one m)

-- the code's product
pub product_is_fraction : (d : ℕ) → d < 2 ^ 64 → mul binary64 (of_int binary64 (pos (d / 2 ^ 11))) (of_bits binary64 0x3ca0_0000_0000_0000) ≡ fraction d
unfolding fraction
product_is_fraction d h = rw step_is (scaled (d / 2 ^ 11) (omega (arith, top_bits d h)))

-- the code's 0.0
pub zero_bits : of_bits binary64 0 ≡ fin false 0 (pos 0)
unfolding of_bits
zero_bits = refl

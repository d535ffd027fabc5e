-- The quotient of two counts is their fraction rounded once. Assumes nothing.
use Prim.Native.Nat.{ℕ, ◌*◌, ◌^◌, ◌≤◌, ◌<◌}
use mathlib.Core.Path.{◌≡◌, sym, ◌∙◌}
use mathlib.Core.Bool.{true, false, true≢false}
use native.Mathlib.Nat.{mul-one, mul_assoc, mul_comm, mul_left_comm, mul-pos}
use native.Mathlib.Omega.{arith}
use borrow.Author.Tests.{ne_eqb}
use lib.Dec.{T, eqb, ltb→lt, le→leb}
use lib.IntN.{pos}
use lib.Ieee.{Float, nan, inf, fin, binary64, up, down, round, div, of_int, in_float}
use lib.Ieee.Exact.{HasValue}
use lib.Ieee.Fits.{up_pos, down_pos}
use lib.Ieee.Back.{round_whole}
use lib.Ieee.Positive.{positive_of_value}
use lib.Ieee.Scale.{round_same}
use Rattle.metrics.specs.Ratio.{quotient}

-- a quotient by any fractions that the numbers equal
cross : (m e n d a b : ℕ) → m * 1 ≡ a * e → n * 1 ≡ b * d → m * d * b ≡ a * (n * e)
cross m e n d a b p q =
    let p' : m ≡ a * e = sym (mul-one m) ∙ p in
    let q' : n ≡ b * d = sym (mul-one n) ∙ q in
    rw (p', q') (simp (mul_assoc, mul_comm, mul_left_comm))

quotient_at : (x y : Float) (a b : ℕ) → HasValue x false a 1 → HasValue y false b 1 → 0 < b → div binary64 x y ≡ round binary64 false a b
unfolding div
quotient_at nan y a b h k l = absurd h
quotient_at (inf s) y a b h k l = absurd h
quotient_at (fin true m e) y a b h k l = absurd (true≢false h.0)
quotient_at (fin false m e) nan a b h k l = absurd k
quotient_at (fin false m e) (inf t) a b h k l = absurd k
quotient_at (fin false m e) (fin true n d) a b h k l = absurd (true≢false k.0)
quotient_at (fin false m e) (fin false n d) a b h k l =
    let above : 0 < n = ltb→lt 0 n (positive_of_value (fin false n d) b 1 k l) in
    let some : eqb n 0 ≡ false = ne_eqb n 0 (λ z. omega arith) in
    rw some
    (round_same binary64 false (m * up e * down d) (n * up d * down e) a b (mul-pos (mul-pos above (up_pos d)) (down_pos e)) l
    (cross (m * up e) (down e) (n * up d) (down d) a b h.1 k.1))

-- for counts that question 11 lets pass, the quotient is the fraction part / whole rounded once
pub quotient_rounded : (part whole : ℕ) → part ≤ 2 ^ 53 → whole ≤ 2 ^ 53 → 0 < whole → quotient part whole ≡ round binary64 false part whole
unfolding quotient of_int
quotient_rounded part whole p w l =
    quotient_at (round binary64 false part 1) (round binary64 false whole 1) part whole (round_whole binary64 false part p) (round_whole binary64 false whole w) l

-- such a count is an f64
pub count_cast : (n : ℕ) → n ≤ 2 ^ 53 → T (in_float binary64 (pos n))
unfolding in_float
count_cast n h = le→leb n (2 ^ 53) h

-- Loss rates by their bits. Assumes nothing.
use Prim.Native.Nat.{ℕ, ◌%◌, ◌^◌, ◌≤◌, ◌<◌}
use mathlib.Core.Path.{◌≡◌, refl, sym, ◌∙◌}
use mathlib.Core.Bool.{true, not, true≢false}
use borrow.Author.Tests.{lt-ltb, le-ltb}
use lib.Dec.{T}
use lib.Ieee.{Float, nan, inf, fin, binary64, div, of_bits, nan_bits, is_nan}
use lib.Ieee.Bits.{nan_bits_is, nan_bits_above}

-- the code's 0.0 / 0.0
zero_by_zero : div binary64 (of_bits binary64 0) (of_bits binary64 0) ≡ nan
unfolding div of_bits
zero_by_zero = refl

is_nan_lem : (x : Float) → is_nan x ≡ true → x ≡ nan
unfolding is_nan
is_nan_lem nan e = refl
is_nan_lem (inf s) e = absurd (true≢false (sym e))
is_nan_lem (fin s m k) e = absurd (true≢false (sym e))

-- without the sign's bit, a NaN's pattern lies above that of infinity
pub no_nan : (b : ℕ) → b % 2 ^ 63 ≤ 0x7ff0_0000_0000_0000 → T (not (nan_bits binary64 b))
no_nan b h = rw (nan_bits_above binary64 b, le-ltb 0x7ff0_0000_0000_0000 (b % 2 ^ 63) h) tt

pub some_nan : (b : ℕ) → 0x7ff0_0000_0000_0000 < b % 2 ^ 63 → div binary64 (of_bits binary64 0) (of_bits binary64 0) ≡ of_bits binary64 b
some_nan b h =
    zero_by_zero ∙ sym (is_nan_lem (of_bits binary64 b) (sym (nan_bits_is binary64 b) ∙ nan_bits_above binary64 b ∙ lt-ltb 0x7ff0_0000_0000_0000 (b % 2 ^ 63) h))

-- A ratio of two counts (rule 8.1): none for a zero divisor, else the f64 quotient rounded once; refused by 11 where a count is above
-- 2^53.
use Rattle.std.specs.Prelude.{ℕ, ◌^◌, Bool, cond, ◌&&◌, Option, Some, None, Result, Ok, Err, pos, eqb, leb, Float}
use Rattle.std.specs.Float.Ieee as Ieee
use Rattle.std.specs.Float.{binary64}
use Rattle.config.specs.declared.refusal.Refusal.{Refusal}

-- the quotient of two counts as f64, which is their fraction rounded once (the law `quotient_rounded`)
unfoldable pub quotient : ℕ → ℕ → Float
quotient part whole = Ieee.div binary64 (Ieee.of_int binary64 (pos part)) (Ieee.of_int binary64 (pos whole))

-- every count up to it is an f64
abbrev pub exact_count : ℕ
exact_count = 2 ^ 53

-- question 11: both counts are at most 2^53
abbrev pub question11 : ℕ → ℕ → Bool
question11 part whole = leb part exact_count && leb whole exact_count

unfoldable pub ratio_of : ℕ → ℕ → Result (Option Float) Refusal
ratio_of part whole =
    cond (question11 part whole) (cond (eqb whole 0) (Ok None) (Ok (Some (quotient part whole)))) (Err Refusal.LargeCount)

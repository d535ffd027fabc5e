-- Reading digits from the front. Assumes nothing.
use Prim.Native.Nat.{ℕ, ◌+◌, ◌-◌, ◌*◌, ◌^◌, ◌≤◌, ◌<◌}
use mathlib.Core.Path.{◌≡◌, refl}
use mathlib.Core.Bool.{Bool, true, false, cond, ◌&&◌, and-false}
use Rattle.std.specs.Prelude.{Option, Some, None}
use mathlib.Core.List.{List, [], ◌∷◌}
use native.Mathlib.Nat.{le_refl, le-mul_of_pos_right}
use native.Mathlib.Omega.{arith}
use lib.Dec.{ltb}
use lib.ListN.{length, get_or, drop, drop_of_length-le}
use borrow.Author.Tests.{lt-ltb, le-ltb, le-leb, lt-leb, ltb-false}
use Rattle.text.proofs.Front.{front}
use Rattle.text.specs.Numeral.{digit, some_digit, all_digits, append, numeral}

module _ {b : ℕ} where
  pub digit_low : b < 48 → digit b ≡ 16
  unfolding digit
  digit_low h = simp (lt-leb 48 b h, lt-leb 97 b (omega arith))

  pub digit_figure : 48 ≤ b → b ≤ 57 → digit b ≡ b - 48
  unfolding digit
  digit_figure h h' = simp (le-leb 48 b h, le-leb b 57 h')

  pub digit_middle : 57 < b → b < 97 → digit b ≡ 16
  unfolding digit
  digit_middle h h' = simp (lt-leb b 57 h, lt-leb 97 b h', and-false)

  pub digit_letter : 97 ≤ b → b ≤ 102 → digit b ≡ b - 87
  unfolding digit
  digit_letter h h' = simp (lt-leb b 57 (omega arith), le-leb 97 b h, le-leb b 102 h', and-false)

  pub digit_high : 102 < b → digit b ≡ 16
  unfolding digit
  digit_high h = simp (lt-leb b 57 (omega arith), lt-leb b 102 h, and-false)

-- the numeral whose first digits gave n and whose other digits are a text
unfoldable pub numeral_from : ℕ → ℕ → List ℕ → Option ℕ
numeral_from base n t = cond (all_digits base t && ltb (append base n t) (2 ^ 64)) (Some (append base n t)) None

pub from_start : (base : ℕ) (t : List ℕ) → numeral base t ≡ numeral_from base 0 t
unfolding numeral numeral_from
from_start base t = refl

pub append_grows : (base n : ℕ) (t : List ℕ) → 1 ≤ base → n ≤ append base n t
unfolding append
append_grows base n [] h = le_refl n
append_grows base n (b ∷ t) h = omega (arith, append_grows base (n * base + digit b) t h, le-mul_of_pos_right n h)

pub from_end : (base n : ℕ) (t : List ℕ) (i : ℕ) → length t ≤ i → n < 2 ^ 64 → numeral_from base n (drop i t) ≡ Some n
unfolding numeral_from all_digits append
from_end base n t i e h = rw (drop_of_length-le t e) (simp (lt-ltb n (2 ^ 64) h))

-- what is known of a byte's digit
module _ (b : ℕ) where
  pub digit_is : {d : ℕ} → Some d ≡ some_digit b → digit b ≡ d
  unfolding some_digit
  digit_is {d} e = case (ltb (digit b) 16) e
    where
      case : (q : Bool) → Some d ≡ cond q (Some (digit b)) None → digit b ≡ d
      case true e = cc
      case false e = cc

  pub digit_none : None ≡ some_digit b → 16 ≤ digit b
  unfolding some_digit
  digit_none e = case (ltb (digit b) 16) refl e
    where
      case : (q : Bool) → ltb (digit b) 16 ≡ q → None ≡ cond q (Some (digit b)) None → 16 ≤ digit b
      case true q e = cc
      case false q e = ltb-false (digit b) 16 q

-- the next digit, at place i of a text
module _ (base n : ℕ) (t : List ℕ) (i : ℕ) (in-text : i < length t) where
  pub from_other : base ≤ digit (get_or t i 0) → numeral_from base n (drop i t) ≡ None
  unfolding numeral_from all_digits
  from_other h = rw (front t i in-text) (simp (le-ltb (digit (get_or t i 0)) base h))

  pub from_large : 1 ≤ base → 2 ^ 64 ≤ n * base + digit (get_or t i 0) → numeral_from base n (drop i t) ≡ None
  unfolding numeral_from append
  from_large one h =
      let m = n * base + digit (get_or t i 0) in
      let out : 2 ^ 64 ≤ append base m (drop (i + 1) t) = omega (arith, append_grows base m (drop (i + 1) t) one) in
      rw (front t i in-text) (simp (le-ltb _ _ out, and-false))

  pub from_digit : digit (get_or t i 0) < base → numeral_from base n (drop i t) ≡ numeral_from base (n * base + digit (get_or t i 0)) (drop (i + 1) t)
  unfolding numeral_from all_digits append
  from_digit h = rw (front t i in-text) (simp (lt-ltb (digit (get_or t i 0)) base h))

-- the steps of reading a numeral
pub ruleset numeral_steps = (digit_is, digit_none, from_start, from_end, from_other, from_large, from_digit)

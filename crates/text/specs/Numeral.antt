-- Numbers as text (rules 10.3 and 10.4).
use Rattle.std.specs.Prelude.{ℕ, ◌+◌, ◌-◌, ◌*◌, ◌^◌, Bool, true, cond, ◌&&◌, List, [], ◌∷◌, leb, ltb, eqb, length, Option, Some, None}

-- the digit that a byte stands for: `0` (48) to `9`, then `a` (97) to `f`; of any other byte 16, which no base here has
unfoldable pub digit : ℕ → ℕ
digit b = cond (leb 48 b && leb b 57) (b - 48) (cond (leb 97 b && leb b 102) (b - 87) 16)

-- the same, and none where it is 16
unfoldable pub some_digit : ℕ → Option ℕ
some_digit b = cond (ltb (digit b) 16) (Some (digit b)) None

-- every byte is a digit of the base
unfoldable pub all_digits : ℕ → List ℕ → Bool
all_digits base [] = true
all_digits base (b ∷ bs) = ltb (digit b) base && all_digits base bs

-- the number n with the digits of a text behind its own
unfoldable pub append : ℕ → ℕ → List ℕ → ℕ
append base n [] = n
append base n (b ∷ bs) = append base (n * base + digit b) bs

-- the number that a text of digits stands for, if it is below 2^64
unfoldable pub numeral : ℕ → List ℕ → Option ℕ
numeral base t = cond (all_digits base t && ltb (append base 0 t) (2 ^ 64)) (Some (append base 0 t)) None

-- the most digits of a decimal, and the digits of a loss rate's bits
abbrev pub max_digits : ℕ
max_digits = 20

abbrev pub rate_digits : ℕ
rate_digits = 16

-- a decimal: 1 to 20 digits, below 2^64
unfoldable pub decimal : List ℕ → Option ℕ
decimal t = cond (leb 1 (length t) && leb (length t) max_digits) (numeral 10 t) None

-- 16 lowercase hexadecimal digits
unfoldable pub hexadecimal : List ℕ → Option ℕ
hexadecimal t = cond (eqb (length t) rate_digits) (numeral 16 t) None

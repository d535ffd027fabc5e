-- Numbers as bytes, the lowest first (rule 16.1).
use Rattle.std.specs.Prelude.{ℕ, zero, suc, ◌+◌, ◌*◌, ◌/◌, ◌%◌, ◌<◌, Bool, List, [], ◌∷◌, ◌++◌, get_or, take, drop}
use Rattle.std.specs.Str.{bytes_eq}

-- how many values a byte has
abbrev pub byte_values : ℕ
byte_values = 256

-- how many bytes a number of 64 bits has
abbrev pub number_size : ℕ
number_size = 8

-- the number in so many bytes
unfoldable pub bytes_of : ℕ → ℕ → List ℕ
bytes_of zero x = []
bytes_of (suc size) x = x % byte_values ∷ bytes_of size (x / byte_values)

-- the number that bytes stand for
unfoldable pub number_of : List ℕ → ℕ
number_of [] = 0
number_of (b ∷ bs) = b + byte_values * number_of bs

-- numbers of 64 bits, one behind the other
unfoldable pub numbers_bytes : List ℕ → List ℕ
numbers_bytes [] = []
numbers_bytes (x ∷ xs) = bytes_of number_size x ++ numbers_bytes xs

-- the number in so many bytes from a place on
abbrev pub number_in : ℕ → ℕ → List ℕ → ℕ
number_in size at bytes = number_of (take size (drop at bytes))

-- each is the value of a byte
abbrev pub AreBytes : List ℕ → Type 0
AreBytes bytes = (i : ℕ) → get_or bytes i 0 < byte_values

-- two lists are the same, byte for byte
unfoldable pub same_bytes : List ℕ → List ℕ → Bool
same_bytes = bytes_eq

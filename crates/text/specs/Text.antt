-- Texts as bytes (rule 11.1): quoted ones, numbers in decimal, and texts one after the other.
use Rattle.std.specs.Prelude.{ℕ, zero, suc, ◌+◌, ◌/◌, ◌%◌, true, false, List, [], ◌∷◌, ◌++◌, ltb}
use Prim.Native.Char.{code}
use Prim.Native.String.{String}

-- a text's characters by their codes, which for ASCII are its bytes
unfoldable pub ascii : String → List ℕ
ascii String.[] = []
ascii (String.◌∷◌ c s) = code c ∷ ascii s

-- the last `most` decimal digits of n, all of them if there are no more
unfoldable pub spelled_in : ℕ → ℕ → List ℕ
spelled_in zero n = []
spelled_in (suc most) n = elim (ltb n 10) [ true ↦ (48 + n) ∷ [] | false ↦ spelled_in most (n / 10) ++ ((48 + n % 10) ∷ []) ]

-- a number in decimal, with no zero in front: it has at most n + 1 digits
unfoldable pub spelled : ℕ → List ℕ
spelled n = spelled_in (suc n) n

-- what f gives for 0 to n - 1, one after the other
unfoldable pub each : (ℕ → List ℕ) → ℕ → List ℕ
each f zero = []
each f (suc n) = each f n ++ f n

-- a number below 2^64 has at most so many digits
abbrev pub number_most : ℕ
number_most = 20

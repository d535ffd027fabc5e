-- Operations on words of 32 bits (rules 2.1 and 2.2).
use Rattle.std.specs.Prelude.{◌≡◌, ℕ, ◌+◌, ◌-◌, ◌*◌, ◌/◌, ◌%◌, ◌^◌, ◌<◌}

-- a + b on words (RFC 8439, section 2.1)
abbrev pub plus : ℕ → ℕ → ℕ
plus a b = (a + b) % 2 ^ 32

-- x <<< k (RFC 8439, section 2.1): the bits move up by k, and the k that pass the top come in below
unfoldable pub rotate_left : ℕ → ℕ → ℕ
rotate_left x k = x * 2 ^ k % 2 ^ 32 + x / 2 ^ (32 - k)

-- x rotated right by k: the bits move down by k, and the k lowest come in at the top
unfoldable pub rotate_right : ℕ → ℕ → ℕ
rotate_right x k = x % 2 ^ k * 2 ^ (32 - k) + x / 2 ^ k

-- bit i of x
abbrev pub bit : ℕ → ℕ → ℕ
bit x i = x / 2 ^ i % 2

-- r is the word x rotated right by k, from 0 to 31, bit by bit: bit i goes to bit (i - k) modulo 32, for every i from 0 to 31.
-- A difference of these numbers doesn't go below 0, so 32 is added first.
abbrev pub RotatedRight : ℕ → ℕ → ℕ → Type 0
RotatedRight x k r = (i : ℕ) → i < 32 → bit x i ≡ bit r ((32 + i - k) % 32)

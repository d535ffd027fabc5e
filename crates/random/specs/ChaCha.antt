-- ChaCha (RFC 8439, sections 2.1 to 2.3), with the number of double rounds as a parameter, and the blocks of rule 2.2.
use Rattle.std.specs.Prelude.{ℕ, zero, suc, ◌/◌, ◌%◌, ◌^◌, ◌<◌, List, [], ◌∷◌, ◌++◌, bit_xor, slice_index, slice_set}
use Rattle.random.specs.Table.{tabulate}
use Rattle.random.specs.Word.{plus, rotate_left}
use Rattle.random.specs.declared.chacha.Quad.{Quad}

-- the words of a key, and of a state or a block
abbrev pub key_size : ℕ
key_size = 8

abbrev pub block_size : ℕ
block_size = 16

-- RFC 8439, 2.1: a += b; d ^= a; d <<<= 16;  c += d; b ^= c; b <<<= 12;  a += b; d ^= a; d <<<= 8;  c += d; b ^= c; b <<<= 7
unfoldable pub quarter : Quad → Quad
quarter q =
    let a₁ = plus q.a q.b in
    let d₁ = rotate_left (bit_xor q.d a₁) 16 in
    let c₁ = plus q.c d₁ in
    let b₁ = rotate_left (bit_xor q.b c₁) 12 in
    let a₂ = plus a₁ b₁ in
    let d₂ = rotate_left (bit_xor d₁ a₂) 8 in
    let c₂ = plus c₁ d₂ in
    let b₂ = rotate_left (bit_xor b₁ c₂) 7 in
    record { a = a₂; b = b₂; c = c₂; d = d₂ }

-- four places of a state
pub record Places (x y z w : ℕ) : Type 0 where
  pub a : x < block_size
  pub b : y < block_size
  pub c : z < block_size
  pub d : w < block_size

-- RFC 8439, 2.2: QUARTERROUND(x, y, z, w) on the words of a state at these places
unfoldable pub quarter_at : List ℕ → ℕ → ℕ → ℕ → ℕ → List ℕ
quarter_at s x y z w =
    let q = quarter (record { a = slice_index s x; b = slice_index s y; c = slice_index s z; d = slice_index s w }) in
    slice_set (slice_set (slice_set (slice_set s x q.a) y q.b) z q.c) w q.d

-- RFC 8439, 2.3: the four quarter rounds on columns, and the four on diagonals
unfoldable pub column_round : List ℕ → List ℕ
column_round s = quarter_at (quarter_at (quarter_at (quarter_at s 0 4 8 12) 1 5 9 13) 2 6 10 14) 3 7 11 15

unfoldable pub diagonal_round : List ℕ → List ℕ
diagonal_round s = quarter_at (quarter_at (quarter_at (quarter_at s 0 5 10 15) 1 6 11 12) 2 7 8 13) 3 4 9 14

-- RFC 8439, 2.3: double rounds, RFC 8439's inner_block, that many times: ten there, four here
unfoldable pub double_rounds : ℕ → List ℕ → List ℕ
double_rounds zero s = s
double_rounds (suc k) s = diagonal_round (column_round (double_rounds k s))

-- RFC 8439, 2.3: the state starts as the four constants, the eight words of the key, and four words for counter and nonce
unfoldable pub initial_state : List ℕ → List ℕ → List ℕ
initial_state key last = (0x61707865 ∷ 0x3320646e ∷ 0x79622d32 ∷ 0x6b206574 ∷ []) ++ (key ++ last)

-- RFC 8439, 2.3: the words of two states added
unfoldable pub sums : List ℕ → List ℕ → List ℕ
sums a b = tabulate block_size (λ (i : ℕ). plus (slice_index a i) (slice_index b i))

-- RFC 8439, 2.3: the block: the state after k double rounds, added to the state that it started from
unfoldable pub block : ℕ → List ℕ → List ℕ → List ℕ
block k key last = sums (double_rounds k (initial_state key last)) (initial_state key last)

-- words 12 and 13 are the block's number as a 64-bit counter, low word first, and words 14 and 15 are zero
unfoldable pub counter_words : ℕ → List ℕ
counter_words c = c % 2 ^ 32 ∷ c / 2 ^ 32 % 2 ^ 32 ∷ 0 ∷ 0 ∷ []

-- a block of the key stream: eight rounds
unfoldable pub stream_block : List ℕ → ℕ → List ℕ
stream_block key c = block 4 key (counter_words c)

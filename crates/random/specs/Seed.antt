-- Seed expansion (rule 2.1).
use Rattle.std.specs.Prelude.{ℕ, zero, suc, ◌+◌, ◌*◌, ◌/◌, ◌%◌, ◌^◌, List, bit_xor}
use Rattle.random.specs.Table.{tabulate}
use Rattle.random.specs.Word.{rotate_right}
use Rattle.random.specs.ChaCha.{key_size}

-- s becomes s times 6364136223846793005 plus 11634580027462260723 modulo 2^64
unfoldable pub next_state : ℕ → ℕ
next_state s = (s * 6364136223846793005 + 11634580027462260723) % 2 ^ 64

-- The state s gives the key word: the low 32 bits of ((s >> 18) xor s) >> 27, rotated right within 32 bits by s >> 59
unfoldable pub key_word : ℕ → ℕ
key_word s = rotate_right (bit_xor (s / 2 ^ 18) s / 2 ^ 27 % 2 ^ 32) (s / 2 ^ 59)

-- the state starts as the seed; this is the state after k steps
unfoldable pub state_after : ℕ → ℕ → ℕ
state_after seed zero = seed
state_after seed (suc k) = next_state (state_after seed k)

-- eight times: the key words
unfoldable pub key_of : ℕ → List ℕ
key_of seed = tabulate key_size (λ (k : ℕ). key_word (state_after seed (suc k)))

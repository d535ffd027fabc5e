-- The draws of a seed (rules 2.3 and 2.4).
use Rattle.std.specs.Prelude.{◌≡◌, ℕ, ◌+◌, ◌*◌, ◌/◌, ◌%◌, ◌^◌, ◌≢◌, slice_index}
use Rattle.random.specs.Seed.{key_of}
use Rattle.random.specs.ChaCha.{block_size, stream_block}
use Rattle.random.specs.declared.draws.Stream.{Stream}

-- word w of a seed's key stream: its blocks one after the other
unfoldable pub stream_word : ℕ → ℕ → ℕ
stream_word seed w = slice_index (stream_block (key_of seed) (w / block_size)) (w % block_size)

-- draw k of a seed: two output words, low first
unfoldable pub draw : ℕ → ℕ → ℕ
draw seed k = stream_word seed (2 * k) + stream_word seed (2 * k + 1) * 2 ^ 32

-- a draw is two words, so a block has half as many draws
abbrev pub block_draws : ℕ
block_draws = block_size / 2

-- A stream holds the key of the seed.
abbrev pub Keyed : ℕ → Stream → Type 0
Keyed seed s = s.key ≡ key_of seed

-- A stream holds block b of the seed.
abbrev pub HasBlock : ℕ → ℕ → Stream → Type 0
HasBlock seed b s = s.block ≡ stream_block (key_of seed) b

-- Draw n of a seed is next: the key is in hand, and, unless n is the first draw of its block, so is the block.
pub record DrawNext (seed n : ℕ) (s : Stream) : Type 0 where
  pub key : Keyed seed s
  pub hand : (n % block_draws ≢ 0) → HasBlock seed (n / block_draws) s

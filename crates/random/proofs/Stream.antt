-- The key stream by blocks, by draws and by attempts. Assumes nothing.
use Rattle.std.proofs.Common.{◌≡◌, ℕ, ◌+◌, ◌*◌, ◌/◌, ◌%◌, ◌^◌, ◌<◌, get_or, refl, ap₂, inr, arith}
use lib.Ieee.{Float}
use Rattle.random.specs.Seed.{key_of}
use Rattle.random.specs.ChaCha.{block_size, stream_block}
use Rattle.random.specs.Draws.{block_draws, stream_word, draw, DrawNext}
use Rattle.random.specs.declared.draws.Stream.{Stream}
use Rattle.random.specs.Reception.{heard_at, Source}

-- draw u of block b
pub draw_of_block : (seed n b u : ℕ) → u < block_draws → n ≡ block_draws * b + u
    → draw seed n ≡ get_or (stream_block (key_of seed) b) (2 * u) 0 + get_or (stream_block (key_of seed) b) (2 * u + 1) 0 * 2 ^ 32
unfolding draw stream_word
draw_of_block seed n b u h e =
    ap₂ (λ (x y : ℕ). x + y * 2 ^ 32) (word (2 * n) (2 * u) (omega arith) (omega arith)) (word (2 * n + 1) (2 * u + 1) (omega arith) (omega arith))
  where
    word : (w v : ℕ) → w / block_size ≡ b → w % block_size ≡ v → stream_word seed w ≡ get_or (stream_block (key_of seed) b) v 0
    word w v p q = ap₂ (λ (x y : ℕ). get_or (stream_block (key_of seed) x) y 0) p q

-- as the draws begin, the stream is a source of the receptions of the seed's run
pub source_begins : (rate : Float) (seed : ℕ) (w : Stream) → DrawNext seed 0 w → Source rate (heard_at rate seed) 0 w
source_begins rate seed w b = record { seed = seed; seeded = refl; ready = inr b }

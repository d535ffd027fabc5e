-- Fraction and reception (rules 2.5 and 2.6).
use Rattle.std.specs.Prelude.{◌≡◌, ℕ, ◌+◌, ◌/◌, ◌^◌, Bool, false, ◌||◌, T, ◌⊎◌, pos, Float}
use Rattle.std.specs.Float.Ieee as Ieee
use Rattle.std.specs.Float.{fin, binary64}
use Rattle.random.specs.Draws.{draw, DrawNext}
use Rattle.random.specs.declared.draws.Stream.{Stream}

-- m / 2^53 as an f64, m the draw's top 53 bits; that it is exact is the law `fraction_exact`
unfoldable pub fraction : ℕ → Float
fraction d = Ieee.round binary64 false (d / 2 ^ 11) (2 ^ 53)

-- the rate is 0 or minus 0
abbrev pub lossless : Float → Bool
lossless rate = Ieee.eq rate (fin false 0 (pos 0))

-- a reception with this draw succeeds: the fraction is at least the loss rate
abbrev pub succeeds : Float → ℕ → Bool
succeeds rate d = Ieee.le rate (fraction d)

-- attempt k of a seed's run is heard: one draw an attempt, and none where the rate is 0
unfoldable pub heard_at : Float → ℕ → ℕ → Bool
heard_at rate seed k = lossless rate || succeeds rate (draw seed k)

-- the stream is ready for attempt k: draw k is next, or none is ever taken
abbrev pub Ready : Float → ℕ → ℕ → Stream → Type 0
Ready rate seed k w = T (lossless rate) ⊎ DrawNext seed k w

-- From attempt k on, this rate with this stream gives these receptions: whether an attempt is heard, by its number.
pub record Source (rate : Float) (heard : ℕ → Bool) (k : ℕ) (w : Stream) : Type 0 where
  pub seed : ℕ
  pub seeded : heard ≡ heard_at rate seed
  pub ready : Ready rate seed k w

-- r says whether attempt k is heard, and the stream, w before it, is w' after it
pub record Receives (rate : Float) (k : ℕ) (w : Stream) (r : Bool) (w' : Stream) : Type 0 where
  pub told : (heard : ℕ → Bool) → Source rate heard k w → r ≡ heard k
  pub next : (heard : ℕ → Bool) → Source rate heard k w → Source rate heard (k + 1) w'

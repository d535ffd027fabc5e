-- The members of a set one by one.
use Rattle.std.specs.Prelude.{◌≡◌, ℕ, ◌+◌, ◌^◌, ◌<◌, true, false}
use Rattle.config.specs.Limits.{set_bits}
use Rattle.network.specs.Graph.{has}

-- i is the lowest member of s, and t is s without it
pub record TakesLowest (s i t : ℕ) : Type 0 where
  pub within : i < set_bits
  pub is : has s i ≡ true
  pub below : (j : ℕ) → j < i → has s j ≡ false
  pub left : s ≡ t + 2 ^ i

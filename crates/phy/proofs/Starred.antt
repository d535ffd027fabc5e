-- The length limits of rule 14.2, by computation. Assumes nothing.
use mathlib.Core.Path.{◌≡◌, refl}
use mathlib.Core.List.{[], ◌∷◌}
use Rattle.std.specs.Prelude.{None}
use Rattle.phy.specs.Round.{length_limit}

-- diameter 0 and 1 repeat; diameter 31 and 64 repeats
pub length_limits : (length_limit None 0 1 ∷ length_limit None 31 64 ∷ []) ≡ (3 ∷ 2112 ∷ [])
length_limits = refl

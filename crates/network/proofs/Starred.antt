-- The diameters of rule 14.2, by computation.
-- Assumes nothing.
use mathlib.Core.Path.{◌≡◌, refl}
use mathlib.Core.List.{[], ◌∷◌}
use Prim.Native.Nat.{ℕ}
use Rattle.network.specs.Distance.{diameter}
use Rattle.network.specs.Questions.{nodes_of}
use Rattle.network.specs.Topology.{topology_of, topology_rows}

-- the diameter of a topology by its number, its nodes or rows, and its second number
abbrev pub diameter_of : ℕ → ℕ → ℕ → ℕ
diameter_of topology first second = let n : ℕ = nodes_of topology first second in diameter (topology_rows (topology_of topology second) n) n

-- mesh 5; line 32; ring 5; grid 2 by 3; tree 7 by 2; tree 4 by 0
pub diameters :
    (diameter_of 1 5 0 ∷ diameter_of 2 32 0 ∷ diameter_of 5 5 0 ∷ diameter_of 4 2 3 ∷ diameter_of 6 7 2 ∷ diameter_of 6 4 0 ∷ [])
    ≡ (1 ∷ 31 ∷ 2 ∷ 3 ∷ 4 ∷ 0 ∷ [])
unfolding diameter topology_rows
diameters = refl

-- The diagonals of a ChaCha state as columns.
use Rattle.std.specs.Prelude.{ℕ, List, [], ◌∷◌, map, slice_index}

-- a state of four rows of four words, with row r turned left by r places
abbrev pub turned_rows : List ℕ → List ℕ
turned_rows s =
    map (λ (i : ℕ). slice_index s i) (0 ∷ 1 ∷ 2 ∷ 3 ∷ 5 ∷ 6 ∷ 7 ∷ 4 ∷ 10 ∷ 11 ∷ 8 ∷ 9 ∷ 15 ∷ 12 ∷ 13 ∷ 14 ∷ [])

-- The file that holds sections (rule 16.2): the first byte, a pair for each section, and the sections one behind the other.
use Rattle.std.specs.Prelude.{ℕ, ◌+◌, length}
use mathlib.Core.List.{List, [], ◌∷◌, ◌++◌, flatten}
use Rattle.archive.specs.Bytes.{bytes_of}
use Rattle.archive.specs.Layout.{marker, offset_size, first_offset}

-- the pairs of sections of which the first begins at this offset
unfoldable pub directory : ℕ → List (List ℕ) → List ℕ
directory at [] = []
directory at (s ∷ ss) = bytes_of offset_size at ++ bytes_of offset_size (length s) ++ directory (at + length s) ss

unfoldable pub file_of : List (List ℕ) → List ℕ
file_of sections = marker ∷ directory first_offset sections ++ flatten sections

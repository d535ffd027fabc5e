-- What a lent buffer holds of the snapshots that were taken (rule 7.3).
use Rattle.std.specs.Prelude.{ℕ, ◌/◌, length, take}
use mathlib.Core.List.{List, flatten}
use Rattle.std.proofs.lemmas.List.Edits.{sets}
use Rattle.config.specs.Limits.{snapshot_size}

-- how many fit whole
abbrev pub snapshot_room : List ℕ → ℕ
snapshot_room buffer = length buffer / snapshot_size

-- Those that fit whole are stored, one after the other; places that they do not use keep their contents.
unfoldable pub snapshots_with : List ℕ → List (List ℕ) → List ℕ
snapshots_with buffer shots = sets buffer 0 (flatten (take (snapshot_room buffer) shots))

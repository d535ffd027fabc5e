-- Records beside the section of a file, and tests in another order. Assumes nothing.
use Prim.Native.Nat.{◌*◌, ◌≤◌}
use mathlib.Core.Path.{◌≡◌, refl, sym, ap₂, ◌∙◌}
use mathlib.Core.Bool.{Bool, true, false, ◌&&◌}
use mathlib.Core.List.{List}
use native.Mathlib.Omega.{arith}
use lib.ListN.{length, take, replicate}
use lib.Seq.{sets, sets-eq, take-append_seam}
use Rattle.config.specs.Limits.{record_size, records_size, max_terms}
use Rattle.pipeline.specs.Round.{Record}
use Rattle.rules.specs.Entries.{record_numbers}
use Rattle.rules.proofs.ExactBuffers.{length_numbers}

-- the records at the start of a table of zeros
pub first_records : (rs : List Record) → length rs ≤ max_terms → take (record_size * length rs) (sets (replicate records_size 0) 0 (record_numbers rs)) ≡ record_numbers rs
first_records rs few =
    ap₂ take (sym (length_numbers rs)) (sets-eq (record_numbers rs) (replicate records_size 0) 0 (omega (arith, length_numbers rs)))
    ∙ take-append_seam (record_numbers rs) _

-- the tests in another order
pub regroup : (a b c d : Bool) → (a && b && c && d) ≡ (b && c && (a && true) && d)
regroup true true true d = refl
regroup true true false d = refl
regroup true false c d = refl
regroup false true true d = refl
regroup false true false d = refl
regroup false false c d = refl

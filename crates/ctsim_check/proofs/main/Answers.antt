use Rattle.std.proofs.Common.{ℕ, sym}
use Rattle.std.proofs.lemmas.List.{length-replicate}
use Rattle.ctsim_check.proofs.main.Goals as goal

-- by a law, as there are too many zeros to count
pub slice_bounds-check_input-end : goal.slice_bounds-check_input-end
slice_bounds-check_input-end c = sym (length-replicate {0} {A = ℕ} 4194305 0)

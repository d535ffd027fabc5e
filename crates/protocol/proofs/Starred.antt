-- The values of rule 14.2 that are of this crate, computed from the definitions. Assumes nothing.
use Rattle.std.specs.Prelude.{Some}
use Prim.Native.Nat.{ℕ}
use mathlib.Core.List.{List, [], ◌∷◌, map}
use mathlib.Core.Path.{◌≡◌, refl}
use Rattle.protocol.specs.Paxos.{LogEntry, State, empty, majority, logged, hold, commit_term, commit_below, commit_up_to, newly_below, newly_up_to, gap_in, detect_gap}
use Rattle.protocol.specs.Growth.{data_for}

-- pending 1 and 3, empty log
abbrev pending_two : State
pending_two = hold 3 0 (data_for 3) (hold 1 0 (data_for 1) empty)

-- the terms of a log
abbrev log_terms : List LogEntry → List ℕ
log_terms l = map (λ e. e.term) l

pub record Starred : Type 0 where
  pub majority_2 : majority 2 ≡ 2
  pub majority_3 : majority 3 ≡ 2
  pub majority_32 : majority 32 ≡ 17
  pub log : log_terms (commit_up_to 3 pending_two).log ≡ 1 ∷ 3 ∷ []
  pub newly : newly_up_to 3 pending_two.log ≡ 0 ∷ 1 ∷ 2 ∷ 3 ∷ []
  pub gap : detect_gap 5 (commit_up_to 3 pending_two) ≡ Some (record { 0 = 4 })

pub starred : Starred
unfolding hold logged commit_term commit_below newly_below gap_in detect_gap
starred =
    record { majority_2 = refl; majority_3 = refl; majority_32 = refl; log = refl; newly = refl; gap = refl }

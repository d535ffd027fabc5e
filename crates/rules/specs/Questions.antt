-- The questions put to an input (rules 9.1 to 9.3), each with its refusal; the first "no" gives it.
use Rattle.std.specs.Prelude.{ℕ, Bool, true, false, ◌&&◌, List, [], ◌∷◌, ◌++◌, Option, Some, None, Result, ⊤, pos, leb, Float}
use Rattle.std.specs.Float.Ieee as Ieee
use Rattle.std.specs.Float.{fin}
use Rattle.config.specs.Limits.{max_terms, max_repeats, max_round_slots, log_size, records_size}
use Rattle.network.specs.Questions.{within, first_no}
use Rattle.config.specs.Refusals.{unless}
use Rattle.config.specs.declared.refusal.Refusal.{Refusal}
use Rattle.config.specs.declared.Config.{Config}
use Rattle.rules.specs.Networks.{RowsOrTopology, network_questions}

-- question 6: `round_slots` absent or 0 to 4,096
abbrev pub slots_allowed : Option ℕ → Bool
slots_allowed None = true
slots_allowed (Some slots) = leb slots max_round_slots

-- question 16: `round_slots` absent, or not below `flood_repeats`
abbrev pub slots_suffice : ℕ → Option ℕ → Bool
slots_suffice repeats None = true
slots_suffice repeats (Some slots) = leb repeats slots

-- question 7: loss rate at least 0 and below 1; a NaN is neither, and minus zero passes
unfoldable pub rate_allowed : Float → Bool
rate_allowed rate = Ieee.le (fin false 0 (pos 0)) rate && Ieee.lt rate (fin false 1 (pos 0))

-- questions 5, 6 and, just after 6, 16: of the length of a round
abbrev pub round_questions : Config → List (Bool × Refusal)
round_questions c =
    (within 1 max_repeats c.flood_repeats, Refusal.RepeatCount)
    ∷ (slots_allowed c.round_slots, Refusal.RoundLength)
    ∷ (slots_suffice c.flood_repeats c.round_slots, Refusal.ShortRound)
    ∷ []

-- questions 7 to 9: of all else in the configuration
abbrev pub other_questions : Config → List (Bool × Refusal)
other_questions c =
    (rate_allowed c.loss_rate, Refusal.LossRate)
    ∷ (leb c.num_proposals max_terms, Refusal.ProposalCount)
    ∷ (leb 1 c.snapshot_interval, Refusal.ZeroInterval)
    ∷ []

-- questions 5, 6, 16 and 7 to 9, of the configuration
abbrev pub config_questions : Config → List (Bool × Refusal)
config_questions c = round_questions c ++ other_questions c

-- question 10, for log and record buffers of these lengths
abbrev pub buffer_questions : ℕ → ℕ → List (Bool × Refusal)
buffer_questions logs records = (leb log_size logs && leb records_size records, Refusal.ShortBuffers) ∷ []

-- the questions of the configuration, then 10
abbrev pub run_questions : Config → ℕ → ℕ → List (Bool × Refusal)
run_questions c logs records = config_questions c ++ buffer_questions logs records

-- the questions of the network, then those of the configuration
abbrev pub questions_for : RowsOrTopology → Config → List (Bool × Refusal)
questions_for q c = network_questions q ++ config_questions c

-- The refusal where no buffer is asked for.
unfoldable pub refusal_for : RowsOrTopology → Config → Option Refusal
refusal_for q c = first_no (questions_for q c)

-- The refusal of a run: the questions of the network, of the configuration and of the buffers.
unfoldable pub run_refusal_for : RowsOrTopology → Config → ℕ → ℕ → Option Refusal
run_refusal_for q c logs records = first_no (network_questions q ++ run_questions c logs records)

-- what putting questions answers: nothing, or the refusal
abbrev pub asked : List (Bool × Refusal) → Result ⊤ Refusal
asked qs = unless (first_no qs) tt

-- A call's numbers as a configuration, and a summary and a ratio as numbers (rules 7.5 and 9.4).
use Rattle.std.specs.Prelude.{ℕ, cond, List, [], ◌∷◌, ◌++◌, eqb, Float, get_or, Option, Some, None, Result, Ok, Err}
use Rattle.std.proofs.lemmas.List.Edits.{sets}
use Rattle.config.specs.declared.Config.{Config}
use Rattle.metrics.specs.declared.summary.Summary.{Summary}
use Rattle.metrics.specs.Totals.{totals}

-- the configuration of a run; round slots are absent where `present` is 0
abbrev pub slots_from : ℕ → ℕ → Option ℕ
slots_from present slots = cond (eqb present 0) None (Some slots)

abbrev pub config_from : ℕ → ℕ → ℕ → Float → ℕ → ℕ → ℕ → ℕ → Config
config_from repeats present slots loss seed proposals interval limit =
    record {
      flood_repeats = repeats;
      round_slots = slots_from present slots;
      loss_rate = loss;
      seed = seed;
      num_proposals = proposals;
      snapshot_interval = interval;
      max_slots = limit;
    }

-- the summary's places
abbrev pub summary_size : ℕ
summary_size = 17

-- the summary's numbers, in the order of rule 7.5: the listing's totals, the records and all snapshots that were taken
abbrev pub summary_numbers : Summary → List ℕ
summary_numbers s = totals s ++ s.records ∷ s.snapshots ∷ []

-- a run's result, and the slice of its summary
abbrev pub result_of : {R : Type 0} → (R → ℕ) → Result Summary R → ℕ
result_of number (Ok s) = 0
result_of number (Err r) = number r

abbrev pub with_summary : {R : Type 0} → Result Summary R → List ℕ → List ℕ
with_summary (Ok s) out = sets out 0 (summary_numbers s)
with_summary (Err r) out = out

-- the summary that a slice's first places hold
abbrev pub summary_at : List ℕ → Summary
summary_at l =
    record {
      nodes = get_or l 0 0;
      rounds = get_or l 1 0;
      slots = get_or l 2 0;
      ended = get_or l 3 0;
      listen = get_or l 4 0;
      flood = get_or l 5 0;
      sleep = get_or l 6 0;
      attempts = get_or l 7 0;
      successes = get_or l 8 0;
      flood_rounds = get_or l 9 0;
      flood_nodes = get_or l 10 0;
      covered = get_or l 11 0;
      took_part = get_or l 12 0;
      nacks = get_or l 13 0;
      piggybacks = get_or l 14 0;
      records = get_or l 15 0;
      snapshots = get_or l 16 0;
    }

-- there is no ratio, as the divisor is 0
abbrev pub no_ratio : ℕ
no_ratio = 101

-- the result of a ratio, and the slice that it is written to
abbrev pub ratio_result : {R : Type 0} → (R → ℕ) → Result (Option Float) R → List Float → ℕ × List Float
ratio_result number (Ok None) out = (no_ratio, out)
ratio_result number (Ok (Some x)) out = (0, sets out 0 (x ∷ []))
ratio_result number (Err r) out = (number r, out)

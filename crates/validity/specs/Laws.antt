-- What the validity of a configuration says of a run of it (rule 12.9).
use Rattle.std.specs.Prelude.{ℕ, ◌≤◌, false, List, ◌⊎◌, ◌↔◌, ◌≡◌, length, Some, None, Ok, Err}
use Rattle.config.specs.Limits.{log_size, records_size}
use Rattle.config.specs.declared.Config.{Config}
use Rattle.config.specs.declared.refusal.Refusal.{Refusal}
use Rattle.config.specs.Refusals.{number_of}
use Rattle.metrics.specs.declared.summary.Summary.{Summary}
use Rattle.network.specs.Questions.{first_no}
use Rattle.rules.specs.Networks.{RowsOrTopology}
use Rattle.rules.specs.Questions.{slots_suffice, other_questions, refusal_for}
use Rattle.rules.specs.Entries.{outcome_for}
use Rattle.validity.specs.declared.Validity.TheVariants.{Current, Outdated}
use Rattle.validity.specs.Validity.{validity_for, validity_number}

-- Current is exactly what is run, with any buffers that are long enough.
abbrev pub CurrentRuns : Type 0
CurrentRuns =
    (q : RowsOrTopology) (c : Config) (logs records snapshots : List ℕ) →
    log_size ≤ length logs → records_size ≤ length records →
    (validity_for q c ≡ Ok Current) ↔ ((s : Summary) × ((outcome_for q c logs records snapshots).answer ≡ Ok s))

-- the same configuration without round slots
abbrev pub without_round_slots : Config → Config
without_round_slots c =
    record {
      flood_repeats = c.flood_repeats;
      round_slots = None;
      loss_rate = c.loss_rate;
      seed = c.seed;
      num_proposals = c.num_proposals;
      snapshot_interval = c.snapshot_interval;
      max_slots = c.max_slots;
    }

-- Outdated is exactly what has too few round slots and would not be refused without them.
abbrev pub OutdatedAlone : Type 0
OutdatedAlone =
    (q : RowsOrTopology) (c : Config) →
    (validity_for q c ≡ Ok Outdated) ↔ ((slots_suffice c.flood_repeats c.round_slots ≡ false) × (refusal_for q (without_round_slots c) ≡ None))

-- A run of what is outdated is refused by 16, whatever its buffers are.
abbrev pub OutdatedRefused : Type 0
OutdatedRefused =
    (q : RowsOrTopology) (c : Config) (logs records snapshots : List ℕ) →
    validity_for q c ≡ Ok Outdated →
    (outcome_for q c logs records snapshots).answer ≡ Err Refusal.ShortRound

-- Where it is refused by question k, k is 1 to 9, and a run of it is refused by k, or by 16 where k is the first "no" behind 16, whatever its buffers
-- are.
abbrev pub RefusedToo : Type 0
RefusedToo =
    (q : RowsOrTopology) (c : Config) (logs records snapshots : List ℕ) (k : Refusal) →
    validity_for q c ≡ Err k →
    ((1 ≤ number_of k) × (number_of k ≤ 9))
    × (((outcome_for q c logs records snapshots).answer ≡ Err k)
    ⊎ (((outcome_for q c logs records snapshots).answer ≡ Err Refusal.ShortRound) × (first_no (other_questions c) ≡ Some k)))

-- Its number tells it: configurations with the same number have the same validity.
abbrev pub NumbersTell : Type 0
NumbersTell =
    (q q' : RowsOrTopology) (c c' : Config) →
    validity_number number_of (validity_for q c) ≡ validity_number number_of (validity_for q' c') →
    validity_for q c ≡ validity_for q' c'

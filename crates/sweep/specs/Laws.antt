-- The laws of sweeps (rule 12.8).
use Rattle.std.specs.Prelude.{ℕ, zero, suc, ◌+◌, ◌*◌, ◌≤◌, List, [], ◌≡◌, length, get_or, take, drop, None, Result, Ok, Err}
use Rattle.std.proofs.Math.Option.{some}
use Rattle.std.proofs.Math.ListN.{get_elem?}
use Rattle.config.specs.declared.Config.{Config}
use Rattle.config.specs.declared.refusal.Refusal.{Refusal}
use Rattle.config.specs.Limits.{log_size, records_size, most_rounds}
use Rattle.rules.specs.Networks.{RowsOrTopology}
use Rattle.rules.specs.Questions.{refusal_for}
use Rattle.rules.specs.Entries.{outcome_for}
use Rattle.sweep.specs.Sweep.{swept_size, swept_line, with_seed, summary_for, sweep_for}

-- line i of a table
abbrev pub swept_line_in : List ℕ → ℕ → List ℕ
swept_line_in table i = take swept_size (drop (swept_size * i) table)

-- the sum of the rounds that the first n lines of a table show
unfoldable pub rounds_shown : ℕ → List ℕ → ℕ
rounds_shown zero table = 0
rounds_shown (suc n) table = get_or table 0 0 + rounds_shown n (drop swept_size table)

-- the sweep of these seeds was not refused; it answered with these rounds and left this table
abbrev pub WasSwept : RowsOrTopology → Config → List ℕ → List ℕ → ℕ → List ℕ → Type 0
WasSwept q c seeds table rounds after = ◌≡◌ {A = Result ℕ Refusal × List ℕ} (sweep_for q c seeds table) (Ok rounds, after)

pub record SweptSeeds (q : RowsOrTopology) (c : Config) (seeds table : List ℕ) (rounds : ℕ) (after : List ℕ) : Type 0 where
  -- line i is that of the run of seed i
  pub lines : (i seed : ℕ) → get_elem? seeds i ≡ some seed → swept_line_in after i ≡ swept_line (summary_for q c seed)
  -- which is what the run's entry answers for this seed alone, with any buffers that are long enough
  pub alone : (seed : ℕ) (logs records snapshots : List ℕ) → log_size ≤ length logs → records_size ≤ length records
      → (outcome_for q (with_seed c seed) logs records snapshots).answer ≡ Ok (summary_for q c seed)
  -- the table is as long as it was, and behind the lines nothing has changed
  pub size : length after ≡ length table
  pub behind : drop (swept_size * length seeds) after ≡ drop (swept_size * length seeds) table
  -- the rounds are the sum of the lines', and at most P + 1,002 for each seed
  pub sum : rounds ≡ rounds_shown (length seeds) after
  pub bound : rounds ≤ length seeds * most_rounds c.num_proposals

-- of every sweep that is not refused
abbrev pub AllSwept : Type 0
AllSwept =
    (q : RowsOrTopology) (c : Config) (seeds table : List ℕ) (rounds : ℕ) (after : List ℕ) →
    WasSwept q c seeds table rounds after →
    SweptSeeds q c seeds table rounds after

-- A seed's line is the same in any two sweeps, wherever it stands in them and whichever seeds stand before or behind it.
abbrev pub LinesAlone : Type 0
LinesAlone =
    (q : RowsOrTopology) (c : Config) (seeds table : List ℕ) (rounds : ℕ) (after : List ℕ) (seeds' table' : List ℕ) (rounds' : ℕ) (after' : List ℕ) →
    WasSwept q c seeds table rounds after →
    WasSwept q c seeds' table' rounds' after' →
    (i j seed : ℕ) → get_elem? seeds i ≡ some seed → get_elem? seeds' j ≡ some seed → swept_line_in after i ≡ swept_line_in after' j

-- the configuration's own seed is not used
abbrev pub OwnSeedUnused : Type 0
OwnSeedUnused =
    (q : RowsOrTopology) (c : Config) (own : ℕ) (seeds table : List ℕ) → ◌≡◌ {A = Result ℕ Refusal × List ℕ} (sweep_for q (with_seed c own) seeds table) (sweep_for q c seeds table)

-- a sweep of no seed: no line, and 0 rounds
abbrev pub NoSeeds : Type 0
NoSeeds = (q : RowsOrTopology) (c : Config) (table : List ℕ) → refusal_for q c ≡ None → WasSwept q c [] table 0 table

-- What refuses a run of some seed, and not for its buffers, refuses every sweep by the same number.
abbrev pub RefusalsSwept : Type 0
RefusalsSwept =
    (q : RowsOrTopology) (c : Config) (seed : ℕ) (logs records snapshots : List ℕ) (question : Refusal) →
    (outcome_for q (with_seed c seed) logs records snapshots).answer ≡ Err question →
    (question ≡ Refusal.ShortBuffers → ⊥) →
    (seeds table : List ℕ) → ◌≡◌ {A = Result ℕ Refusal × List ℕ} (sweep_for q c seeds table) (Err question, table)

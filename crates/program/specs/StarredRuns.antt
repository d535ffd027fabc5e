-- The starred runs: the values of rule 14.2, one table, proved from the definitions.
use Rattle.std.specs.Prelude.{ℕ, ◌-◌, ◌/◌, ◌^◌, ◌≤◌, true, false, List, [], ◌∷◌, ◌≡◌, Float, replicate, Some, None, Result, Ok}
use Rattle.std.specs.Float.Ieee.{of_bits}
use Rattle.std.specs.Float.{binary64}
use Rattle.network.specs.Distance.{diameter}
use Rattle.network.specs.Questions.{nodes_of}
use Rattle.random.specs.Reception.{succeeds}
use Rattle.network.specs.Topology.{topology_of, topology_rows}
use Rattle.phy.specs.Round.{length_limit}
use Rattle.protocol.specs.Growth.{data_for}
use Rattle.protocol.specs.Paxos.{State, empty, majority, hold, commit_up_to, newly_up_to, detect_gap}
use Rattle.text.specs.Text.{ascii}
use Rattle.metrics.specs.declared.summary.Summary.{Summary}
use Rattle.config.specs.Limits.{log_size, records_size, listed_size}
use Rattle.config.specs.declared.Config.{Config}
use Rattle.config.specs.declared.refusal.Refusal.{Refusal}
use Rattle.rules.specs.Networks.{RowsOrTopology}
use Rattle.rules.specs.Entries.{terms, outcome_for, run_of_topology}
use Rattle.program.specs.Printed.{printed}

-- the diameter of a topology by its number, its nodes or rows, and its second number
abbrev pub diameter_of : ℕ → ℕ → ℕ → ℕ
diameter_of topology first second = let n : ℕ = nodes_of topology first second in diameter (topology_rows (topology_of topology second) n) n

-- terms 1 and 3 are pending, and the log is empty
abbrev pub pending_two : State
pending_two = hold 3 0 (data_for 3) (hold 1 0 (data_for 1) empty)

-- r 1, P 0 and loss rate 0, `round_slots` absent
abbrev pub idle_config : ℕ → ℕ → ℕ → Config
idle_config seed interval limit =
    record {
      flood_repeats = 1;
      round_slots = None;
      loss_rate = of_bits binary64 0;
      seed = seed;
      num_proposals = 0;
      snapshot_interval = interval;
      max_slots = limit;
    }

-- one round, 2 slots, 3 listen, 4 flood, 1 sleep, end 1
pub record StarRun (a : Result Summary Refusal) : Type 0 where
  pub summary : Summary
  pub ran : a ≡ Ok summary
  pub rounds : summary.rounds ≡ 1
  pub slots : summary.slots ≡ 2
  pub listen : summary.listen ≡ 3
  pub flood : summary.flood ≡ 4
  pub sleep : summary.sleep ≡ 1
  pub ended : summary.ended ≡ 1

-- the f64 0.5
abbrev pub half : Float
half = of_bits binary64 0x3fe0_0000_0000_0000

pub record StarredRuns : Type 0 where
  -- the printed run, byte for byte
  pub printed_run :
      printed (ascii "2 3 0 1 - 0000000000000000 7 1 2 1000\n")
      ≡ ascii "nodes 3 rounds 2 slots 5 ended 1\nlisten 5 flood 6 sleep 4\nlinks 4 4 floods 2 6 6 6 recovery 0 0\nproposal 0 0 3 3\nsnapshot 0 0 2 1 0\nsnapshot 2 0 0 1 2\nsnapshot 4 0 0 2 1\nlog 0 0\nlog 1 0\nlog 2 0\n"
  -- diameters: mesh 5: 1; line 32: 31; ring 5: 2; grid 2 by 3: 3; tree 7 by 2: 4; tree 4 by 0: 0
  pub diameters :
      (diameter_of 1 5 0 ∷ diameter_of 2 32 0 ∷ diameter_of 5 5 0 ∷ diameter_of 4 2 3 ∷ diameter_of 6 7 2 ∷ diameter_of 6 4 0 ∷ [])
      ≡ (1 ∷ 31 ∷ 2 ∷ 3 ∷ 4 ∷ 0 ∷ [])
  -- length limits: d 0, r 1: 3; d 31, r 64: 2,112
  pub length_limits : (length_limit None 0 1 ∷ length_limit None 31 64 ∷ []) ≡ (3 ∷ 2112 ∷ [])
  -- majorities: 2: 2; 3: 2; 32: 17
  pub majorities : (majority 2 ∷ majority 3 ∷ majority 32 ∷ []) ≡ (2 ∷ 2 ∷ 17 ∷ [])
  -- pending 1 and 3, empty log, commit to 3: log 1, 3
  pub log : terms (commit_up_to 3 pending_two).log ≡ 1 ∷ 3 ∷ []
  -- newly 0 to 3
  pub newly : newly_up_to 3 pending_two.log ≡ 0 ∷ 1 ∷ 2 ∷ 3 ∷ []
  -- gap below 5: 4
  pub gap : detect_gap 5 (commit_up_to 3 pending_two) ≡ Some (record { 0 = 4 })
  -- star 4, r 1, P 0, loss rate 0, round slots absent: one round, 2 slots, 3 listen, 4 flood, 1 sleep, end 1; for every seed, and every
  -- interval and slot limit of at least 1
  pub star : (seed interval limit : ℕ) → 1 ≤ interval → 1 ≤ limit →
      StarRun (run_of_topology 3 4 0 (idle_config seed interval limit) (replicate log_size 0) (replicate records_size 0) (replicate listed_size 0)).answer
  -- limit 0: no round, end 4; for every run of rows or of a topology that is not refused
  pub limit_0 : (q : RowsOrTopology) (c : Config) (logs records snapshots : List ℕ) (s : Summary) → c.max_slots ≡ 0 →
      (outcome_for q c logs records snapshots).answer ≡ Ok s → (s.rounds ≡ 0) × (s.ended ≡ 4)
  -- loss 0.5: m = 2^52 succeeds, 2^52 - 1 is lost; m is the draw's top 53 bits
  pub succeeds_at : (draw : ℕ) → draw / 2 ^ 11 ≡ 2 ^ 52 → succeeds half draw ≡ true
  pub lost_below : (draw : ℕ) → draw / 2 ^ 11 ≡ 2 ^ 52 - 1 → succeeds half draw ≡ false

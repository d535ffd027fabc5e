-- The values of section 14 that are proved, together. Assumes nothing.
use Prim.Native.Nat.{ℕ, ◌+◌, ◌-◌, ◌/◌, ◌^◌, ◌≤◌}
use mathlib.Core.Bool.{Bool, true, false, cond}
use mathlib.Core.List.{List, flatten}
use Rattle.std.specs.Prelude.{Option, Some, None, Ok}
use mathlib.Core.Path.{◌≡◌, refl, sym, ap, ◌∙◌}
use native.Mathlib.Nat.{add-suc}
use borrow.Author.Tests.{le-leb, lt-leb}
use lib.Dec.{leb}
use lib.Ieee as Ieee
use lib.Ieee.{of_bits, binary64}
use lib.ListN.{length, replicate}
use Rattle.network.specs.Distance.{links, greatest, eccentricity, diameter}
use Rattle.network.specs.Graph.{has, set_of, any, all, count, linked, widened}
use Rattle.random.specs.Reception.{fraction, heard_at, succeeds}
use Rattle.random.specs.Table.{tabulate}
use Rattle.network.specs.Topology.{topology_row, topology_rows}
use Rattle.network.proofs.Starred.{diameters}
use Rattle.phy.specs.Node.{tick, transition}
use Rattle.phy.specs.Packets.{same_packet}
use Rattle.phy.specs.Snapshots.{snapshots_with}
use Rattle.phy.specs.Round.{begun, slots, delivered, participants, coverage, round}
use Rattle.phy.specs.Slot.{among, receivers, insert, attempt, attempt_all, take_one, take_while, ticked, snapshot, tries_in, moved, slot_step, sum_of}
use Rattle.phy.proofs.Starred.{length_limits}
use Rattle.protocol.specs.Paxos.{union, size, logged, hold, hold_new, merge_votes_up_to, greatest_quorum, commit_term, commit_below, newly_below, commit_to, newly_to, gap_in, detect_gap, find, recovery}
use Rattle.protocol.specs.Turns.{announce, initiator_turn, take_data, take_piggyback, take_votes, participant_turn}
use Rattle.protocol.proofs.Starred.{starred}
use Rattle.text.specs.Text.{ascii, spelled_in, spelled, each}
use Rattle.line.specs.Line.{bytes_before, prefixed, fields, is_dash, round_slots_of, four_decimals, read_fields, read_line}
use Rattle.listing.specs.Listing.{labelled, line_with, run_line, radio_line, link_line, proposal_line, snapshot_line, term_text, log_line, listing}
use Rattle.text.specs.Numeral.{digit, all_digits, append, numeral, decimal, hexadecimal}
use Rattle.metrics.specs.declared.summary.Summary.{Summary}
use Rattle.config.specs.declared.refusal.Refusal.{Refusal}
use Rattle.config.specs.Limits.{log_size, records_size}
use Rattle.config.specs.declared.Config.{Config}
use Rattle.rules.specs.Entries.{logs_with, record_numbers, summary_of, ran_with, outcome_of, given_for, outcome_for, run_of_topology}
use Rattle.rules.specs.Networks.{RowsOrTopology, of_topology}
use Rattle.program.specs.Printed.{line_text, printed}
use Rattle.rules.specs.Questions.{rate_allowed, run_refusal_for}
use Rattle.pipeline.specs.Round.{recorded, record_all, prepare_round, take_turn, turns, process_round, shortest_from}
use Rattle.rules.specs.Run.{Given, Ended, begin, run_round, complete, end_after, rounds_from, run_for, run}
use Rattle.program.specs.StarredRuns.{StarRun, idle_config, half, StarredRuns}
use Rattle.rules.proofs.Ends.{from_limit, from_end}
use Rattle.rules.proofs.Admitted.{ran_so}

-- ---- the star
module _ (seed interval limit : ℕ) (h : 1 ≤ interval) (l : 1 ≤ limit) where
  abbrev given : Given
  given = given_for (of_topology 3 4 0) (idle_config seed interval limit)

  abbrev buffer : List ℕ
  buffer = replicate 5000 0

  -- the run after its only round
  abbrev last : Ended
  last = record { running = run_round given 0 (begin given); ended = 1 }

  one_round : run given ≡ last
  unfolding run_for end_after complete all
  one_round = from_end given 1001 0 (begin given) (lt-leb limit 0 l) refl

  passes : run_refusal_for (of_topology 3 4 0) (idle_config seed interval limit) log_size records_size ≡ None
  unfolding run_refusal_for rate_allowed Ieee.le of_bits
  passes = ap (λ (b : Bool). cond b None (Some Refusal.ZeroInterval)) (le-leb 1 interval h)

  answered : (run_of_topology 3 4 0 (idle_config seed interval limit) (replicate log_size 0) (replicate records_size 0) buffer).answer ≡ Ok (summary_of given last)
  unfolding outcome_for ran_with
  answered =
      ap (λ (o : Option Refusal). (outcome_of o given (replicate log_size 0) (replicate records_size 0) buffer).answer) passes
      ∙ ap (λ (e : Ended). Ok (summary_of given e)) one_round

  star : StarRun (run_of_topology 3 4 0 (idle_config seed interval limit) (replicate log_size 0) (replicate records_size 0) buffer).answer
  unfolding has set_of any all count linked widened links greatest eccentricity diameter topology_row topology_rows heard_at tabulate tick
      transition among receivers insert attempt attempt_all take_one ticked tries_in moved slot_step begun slots delivered participants coverage round
      run_round sum_of Ieee.le of_bits
  star =
      record {
        summary = summary_of given last;
        ran = answered;
        rounds = refl;
        slots = refl;
        listen = refl;
        flood = refl;
        sleep = refl;
        ended = refl;
      }

-- ---- slot limit 0
no_round : (g : Given) → g.limit ≡ 0 → run g ≡ record { running = begin g; ended = 4 }
unfolding run_for
no_round g e =
    ap (λ (m : ℕ). rounds_from g m 0 (begin g)) (add-suc g.proposals 1001)
    ∙ from_limit g (g.proposals + 1001) 0 (begin g) (ap (λ (x : ℕ). leb x 0) e)

no_round_of : (o : Option Refusal) (g : Given) (logs records snapshots : List ℕ) (s : Summary) → g.limit ≡ 0
    → (outcome_of o g logs records snapshots).answer ≡ Ok s → (s.rounds ≡ 0) × (s.ended ≡ 4)
no_round_of o g logs records snapshots s z e =
    let same : s ≡ summary_of g (record { running = begin g; ended = 4 }) =
    sym (ran_so o g logs records snapshots s e).1 ∙ ap (summary_of g) (no_round g z) in
    (ap (λ (x : Summary). x.rounds) same, ap (λ (x : Summary). x.ended) same)

limit_0 : (q : RowsOrTopology) (c : Config) (logs records snapshots : List ℕ) (s : Summary) → c.max_slots ≡ 0
    → (outcome_for q c logs records snapshots).answer ≡ Ok s → (s.rounds ≡ 0) × (s.ended ≡ 4)
unfolding outcome_for
limit_0 q c logs records snapshots s z e = no_round_of (run_refusal_for q c (length logs) (length records)) (given_for q c) logs records snapshots s z e

-- ---- loss 0.5
succeeds_at : (draw : ℕ) → draw / 2 ^ 11 ≡ 2 ^ 52 → succeeds half draw ≡ true
unfolding fraction Ieee.le Ieee.round of_bits
succeeds_at draw e = ap (λ (m : ℕ). Ieee.le half (Ieee.round binary64 false m (2 ^ 53))) e

lost_below : (draw : ℕ) → draw / 2 ^ 11 ≡ 2 ^ 52 - 1 → succeeds half draw ≡ false
unfolding fraction Ieee.le Ieee.round of_bits
lost_below draw e = ap (λ (m : ℕ). Ieee.le half (Ieee.round binary64 false m (2 ^ 53))) e

-- ---- the table
pub starred_runs : StarredRuns
unfolding has all count linked widened greatest eccentricity diameter topology_row topology_rows heard_at tabulate tick transition among
    receivers insert attempt attempt_all snapshots_with flatten take_one take_while ticked snapshot tries_in moved slot_step begun slots delivered participants
    coverage round same_packet union size logged hold hold_new merge_votes_up_to greatest_quorum commit_term commit_below newly_below commit_to newly_to
    gap_in detect_gap find recovery announce initiator_turn take_data take_piggyback take_votes participant_turn rate_allowed run_refusal_for recorded
    record_all prepare_round take_turn turns process_round shortest_from run_round complete end_after rounds_from run_for sum_of logs_with record_numbers ran_with
    outcome_for Ieee.le of_bits ascii bytes_before prefixed fields is_dash round_slots_of four_decimals read_fields read_line digit all_digits append
    numeral decimal hexadecimal spelled_in spelled labelled line_with each run_line radio_line link_line proposal_line snapshot_line term_text log_line listing line_text
    printed
starred_runs =
    record {
      printed_run = refl;
      diameters = diameters;
      length_limits = length_limits;
      majorities = refl;
      log = starred.log;
      newly = starred.newly;
      gap = starred.gap;
      star = star;
      limit_0 = limit_0;
      succeeds_at = succeeds_at;
      lost_below = lost_below;
    }

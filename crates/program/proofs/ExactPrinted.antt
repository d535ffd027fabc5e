-- The printed run meets demand 3's premises, so the theorem speaks of it. Assumes nothing.
use mathlib.Core.Bool.{false}
use mathlib.Core.List.{[], flatten}
use mathlib.Core.Path.{◌≡◌, refl, sym}
use lib.Count.{ones_in}
use lib.Dec.{lit≤}
use lib.Ieee as Ieee
use lib.Ieee.{fin}
use lib.IntN.{pos}
use lib.ListN.{replicate}
use Rattle.network.specs.declared.topology.Topology.TheVariants.{Line}
use Rattle.network.proofs.Checks.{joined_agree}
use Rattle.network.proofs.Rows.{get_d_widened}
use Rattle.network.proofs.Topologies.{rows_checked, rows_joined}
use Rattle.metrics.specs.declared.summary.Summary.{Summary}
use Rattle.config.specs.Limits.{log_size, records_size}
use Rattle.config.specs.declared.Config.{Config}
use Rattle.std.specs.Prelude.{None, Ok}
use Rattle.rules.specs.Networks.{of_topology}
use Rattle.rules.specs.ExactRounds.{Suited, NoneLost, ExactRounds}
use Rattle.rules.proofs.ExactRounds.{exact_rounds}
use Rattle.network.specs.Graph.{has, set_of, any, all, count, linked, widened}
use Rattle.network.specs.Distance.{spread, reaches, first_with, distance, links, greatest, eccentricity, diameter}
use Rattle.network.specs.Topology.{topology_row, topology_rows}
use Rattle.random.specs.Reception.{fraction, heard_at}
use Rattle.random.specs.Table.{tabulate}
use Rattle.phy.specs.Node.{tick, transition}
use Rattle.phy.specs.Slot.{among, receivers, insert, attempt, attempt_all, take_one, take_while, ticked, snapshot, tries_in, moved, slot_step, sum_of}
use Rattle.phy.specs.Snapshots.{snapshots_with}
use Rattle.phy.specs.Round.{begun, slots, delivered, participants, coverage, round}
use Rattle.phy.specs.Packets.{same_packet}
use Rattle.protocol.specs.Paxos.{union_in, union, size, logged, hold, hold_new, merge_votes_up_to, greatest_quorum, commit_term, commit_below, newly_below, commit_to, newly_to, gap_in, detect_gap, find, recovery}
use Rattle.protocol.specs.Turns.{announce, initiator_turn, take_data, take_piggyback, take_votes, participant_turn}
use Rattle.rules.specs.Questions.{rate_allowed, run_refusal_for}
use Rattle.pipeline.specs.Round.{recorded, record_all, prepare_round, take_turn, turns, process_round, shortest_from}
use Rattle.rules.specs.Run.{run_round, complete, end_after, rounds_from, run_for, run}
use Rattle.rules.specs.Entries.{logs_with, record_numbers, ran_with, given_for, outcome_for}

-- `2 3 0 1 - 0000000000000000 7 1 2 1000`
abbrev pub printed : Config
printed =
    record {
      flood_repeats = 1;
      round_slots = None;
      loss_rate = fin false 0 (pos 0);
      seed = 7;
      num_proposals = 1;
      snapshot_interval = 2;
      max_slots = 1000;
    }

abbrev pub summary : Summary
summary =
    record {
      nodes = 3;
      rounds = 2;
      slots = 5;
      ended = 1;
      listen = 5;
      flood = 6;
      sleep = 4;
      attempts = 4;
      successes = 4;
      flood_rounds = 2;
      flood_nodes = 6;
      covered = 6;
      took_part = 6;
      nacks = 0;
      piggybacks = 0;
      records = 1;
      snapshots = 3;
    }

printed_answer : (outcome_for (of_topology 2 3 0) printed (replicate log_size 0) (replicate records_size 0) []).answer ≡ Ok summary
unfolding has set_of any all count linked widened spread reaches first_with distance links greatest eccentricity diameter topology_row topology_rows fraction heard_at tabulate tick transition among receivers insert attempt attempt_all snapshots_with flatten take_one take_while ticked snapshot tries_in moved slot_step begun slots delivered participants coverage round same_packet union_in union size logged hold hold_new merge_votes_up_to greatest_quorum commit_term commit_below newly_below commit_to newly_to gap_in detect_gap find recovery announce initiator_turn take_data take_piggyback take_votes participant_turn rate_allowed run_refusal_for recorded record_all prepare_round take_turn turns process_round shortest_from run_round complete end_after rounds_from run_for sum_of logs_with record_numbers ran_with outcome_for ones_in Ieee.le
printed_answer = refl

fits : Suited (given_for (of_topology 2 3 0) printed)
unfolding diameter greatest eccentricity links first_with reaches spread set_of any linked has widened topology_rows topology_row tabulate
fits =
    record {
      joined = joined_agree (topology_rows Line 3) (widened (topology_rows Line 3) 3) 3 (λ i h. sym (get_d_widened (topology_rows Line 3) 3 (rows_checked Line 3).enough i h)) (rows_joined Line 3 tt);
      proposes = lit≤ tt;
      room = tt;
      limit = lit≤ tt;
    }

pub printed_none_lost : NoneLost (of_topology 2 3 0) printed (replicate log_size 0) (replicate records_size 0) [] summary
printed_none_lost = record { accepted = printed_answer; equal = refl; suited = fits }

pub printed_exact : ExactRounds (given_for (of_topology 2 3 0) printed) (run (given_for (of_topology 2 3 0) printed)) summary
    (outcome_for (of_topology 2 3 0) printed (replicate log_size 0) (replicate records_size 0) []).logs (outcome_for (of_topology 2 3 0) printed (replicate log_size 0) (replicate records_size 0) []).records
printed_exact = exact_rounds (of_topology 2 3 0) printed (replicate log_size 0) (replicate records_size 0) [] summary printed_none_lost

-- Demand 3, for a run of rows and for a run of a topology. Assumes nothing.
use Prim.Native.Nat.{ℕ, ◌-◌, ◌/◌, ◌<◌}
use mathlib.Core.List.{List}
use mathlib.Core.Path.{◌≡◌, sym, ap, ◌∙◌, subst}
use native.Mathlib.Omega.{arith}
use lib.ListN.{length}
use lib.Seq.{sets}
use Rattle.random.specs.Table.{tabulate}
use Rattle.random.proofs.Tables.{length_tabulate, get_d_tabulate}
use Rattle.protocol.specs.Paxos.{State, empty}
use Rattle.metrics.specs.declared.summary.Summary.{Summary}
use Rattle.pipeline.specs.Round.{Shared, Record, state_of}
use Rattle.rules.specs.Accepted.{Accepted}
use Rattle.rules.specs.Run.{Given, run}
use Rattle.rules.specs.Entries.{Outcome, terms, record_numbers, given_for, summary_of, ran_with}
use Rattle.rules.specs.ExactRounds.{slots_in, first_slot, rounds_of, ExactRecord, ExactRounds, Suited, Demand3}
use Rattle.rules.proofs.Claimed.{entries}
use Rattle.rules.proofs.ExactTurns.{claimed}
use Rattle.rules.proofs.ExactRound.{exact_record, shared_at}
use Rattle.rules.proofs.Sums.{sum_split}
use Rattle.rules.proofs.Admitted.{Roomy, Admitted, admitted}
use Rattle.rules.proofs.ExactEnd.{Stopped, stops}
use Rattle.rules.proofs.ExactBuffers.{terms_entries, count_at, term_at_lem, stored_at}

-- ---- any run

module _ (g : Given) (logs records snapshots : List ℕ) (a : Accepted g) (w : Suited g) (b : Roomy logs records)
    (equal : (run g).running.standing.attempts ≡ (run g).running.standing.successes) where
  stopped : Stopped g (run g)
  stopped = stops g a w equal

  logs_are : (j : ℕ) → j < g.nodes → terms (state_of (run g).running.shared.states j).log ≡ tabulate g.proposals (λ (t : ℕ). t)
  unfolding shared_at claimed
  logs_are j h =
      let c : rounds_of g - g.nodes / 2 ≡ g.proposals = omega arith in
      ap (λ (s : Shared). terms (state_of s.states j).log) stopped.after.shared
      ∙ ap (λ (s : State). terms s.log) (get_d_tabulate g.nodes (claimed g.nodes g.proposals (rounds_of g)) j empty h)
      ∙ ap (λ (x : ℕ). terms (entries x)) c
      ∙ terms_entries g.proposals

  records_are : (run g).running.shared.records ≡ tabulate g.proposals (exact_record (first_slot g) g.nodes)
  unfolding shared_at
  records_are =
      let c : rounds_of g - g.nodes / 2 ≡ g.proposals = omega arith in
      ap (λ (s : Shared). s.records) stopped.after.shared ∙ ap (λ (x : ℕ). tabulate x (exact_record (first_slot g) g.nodes)) c

  record_is : (t : ℕ) → t < g.proposals → ExactRecord g (ran_with g logs records snapshots).records t
  unfolding ran_with
  record_is t h =
      let r = stored_at records g.proposals (exact_record (first_slot g) g.nodes) t (omega (arith, a.proposals, b.for_records)) h in
      subst (λ (rs : List Record). ExactRecord g (sets records 0 (record_numbers rs)) t) (sym records_are)
      (record { id = r.0; start = r.1; end = r.2; latency = omega (arith, r.1, r.2, sum_split t (g.nodes / 2) (slots_in g)) })

  pub exact_given : ExactRounds g (run g) (summary_of g (run g)) (ran_with g logs records snapshots).logs (ran_with g logs records snapshots).records
  unfolding ran_with
  exact_given =
      record {
        ended = stopped.ended;
        rounds = stopped.after.count;
        played = stopped.after.count;
        each = stopped.after.past;
        slots = stopped.after.slot;
        listen = stopped.after.listen;
        flood = stopped.after.flood;
        sleep = stopped.after.sleep;
        reached = (stopped.after.covered, stopped.after.took_part);
        proposals = ap length records_are ∙ length_tabulate g.proposals (exact_record (first_slot g) g.nodes);
        recorded = records_are;
        record_at = record_is;
        log_of = λ j h.
            record {
              log = logs_are j h;
              count = count_at logs (run g).running.shared.states g.nodes g.proposals b.for_logs a.few a.proposals logs_are g.nodes j (omega arith) h;
              term_at = λ t l. term_at_lem logs (run g).running.shared.states g.nodes g.proposals b.for_logs a.few a.proposals logs_are g.nodes j t (omega arith) h l;
            };
      }

-- ---- the theorem

pub exact_rounds : Demand3
exact_rounds q c logs records snapshots s p =
    let g : Given = given_for q c in
    let a : Admitted q c logs records snapshots s = admitted q c logs records snapshots s p.accepted in
    subst (λ (o : Outcome). ExactRounds g (run g) s o.logs o.records) (sym a.ran)
    (subst (λ (x : Summary). ExactRounds g (run g) x (ran_with g logs records snapshots).logs (ran_with g logs records snapshots).records) a.summary
    (exact_given g logs records snapshots a.accepted p.suited a.roomy (subst (λ (x : Summary). x.attempts ≡ x.successes) (sym a.summary) p.equal)))

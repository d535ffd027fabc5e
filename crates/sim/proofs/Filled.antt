-- The summary and the buffers of a run that has stopped. Assumes nothing.
use Prim.Native.Nat.{ℕ, ◌*◌}
use mathlib.Core.Path.{◌≡◌, sym, ap, ◌∙◌}
use mathlib.Core.List.{List}
use lib.ListN.{drop}
use lib.Seq.{sets}
use Rattle.config.specs.Limits.{most_rounds}
use Rattle.metrics.specs.declared.summary.Summary.{Summary}
use Rattle.phy.specs.Snapshots.{snapshots_with}
use Rattle.protocol.specs.declared.state.PaxosState.{PaxosState}
use Rattle.protocol.specs.Paxos.{State}
use Rattle.pipeline.specs.declared.records.History.{History}
use Rattle.pipeline.specs.Round.{Shared}
use Rattle.pipeline.specs.View.{states_of, records_of, shared_of}
use Rattle.rules.specs.Run.{run}
use Rattle.rules.specs.Answers.{ran}
use Rattle.rules.specs.Entries.{summary_of, logs_with, record_numbers, ran_with}
use Rattle.rules.proofs.Coverage.{same_counts}
use Rattle.rounds.specs.declared.run.Plan.{Plan}
use Rattle.rounds.specs.declared.run.Stopped.{Stopped}
use Rattle.rounds.specs.Going.{planned, Contents, Goes, Stops}
use Rattle.sim.specs.Filling.{Over, summary_from}
use Rattle.rounds.proofs.Underway.{states_are, count_is}

pub over : {p : Plan} {r : Stopped} {b₀ : List ℕ} {w : Contents} → Goes p (most_rounds p.config.num_proposals) r b₀ w → Over p r b₀ w
over e = record { shows = e.shows; rounds = e.rounds; ended = e.ended }

module _ {p : Plan} {r : Stopped} {b₀ : List ℕ} {w : Contents} (e : Over p r b₀ w) where
  pub summary_is : summary_from p.network.graph.nodes r ≡ summary_of (planned p) (run (planned p))
  unfolding shared_of
  summary_is =
      let shows = e.shows in
      let st = shows.standing in
      let rounds = sym e.rounds in
      λ i. record {
        nodes = p.network.graph.nodes;
        rounds = rounds i;
        slots = st.slot i;
        ended = e.ended i;
        listen = st.listens i;
        flood = st.floods i;
        sleep = st.sleeps i;
        attempts = st.attempts i;
        successes = st.successes i;
        flood_rounds = rounds i;
        flood_nodes = p.network.graph.nodes * rounds i;
        covered = (shows.took_part ∙ sym (same_counts (planned p) (most_rounds p.config.num_proposals))) i;
        took_part = shows.took_part i;
        nacks = (shows.shared i).nacks;
        piggybacks = (shows.shared i).piggybacks;
        records = count_is shows i;
        snapshots = st.shots.number i;
      }

  -- the logs and the records, as they are written
  pub logs_are : (logs : List ℕ) → logs_with logs (states_of p.network.graph.nodes w.states) p.network.graph.nodes ≡ logs_with logs (run (planned p)).running.shared.states p.network.graph.nodes
  logs_are logs = ap (λ (y : List State). logs_with logs y p.network.graph.nodes) (states_are e.shows)

  pub records_are : record_numbers (records_of r.run.carry.recorded.count w.history) ≡ record_numbers (run (planned p)).running.shared.records
  unfolding shared_of
  records_are = ap (λ (y : Shared). record_numbers y.records) e.shows.shared

pub finishes : {p : Plan} {r : Stopped} {b₀ : List ℕ} {states : List PaxosState} {history : History} {snapshots : List ℕ}
    → Stops p (most_rounds p.config.num_proposals) r b₀ states history snapshots
    → {s : Summary} (logs records : List ℕ) {logs' records' : List ℕ} → s ≡ summary_from p.network.graph.nodes r → logs' ≡ logs_with logs (states_of p.network.graph.nodes states) p.network.graph.nodes
    → records' ≡ sets records 0 (record_numbers (records_of r.run.carry.recorded.count history))
    → ran s logs' records' snapshots ≡ ran_with (planned p) logs records b₀
unfolding ran_with
finishes {p} {b₀ = b₀} e logs records q l w =
    let o = over e.goes in
    let stored = e.goes.shows.standing.shots.stored in
    λ i.
    ran ((q ∙ summary_is o) i) ((l ∙ logs_are o logs) i) ((w ∙ ap (sets records 0) (records_are o)) i)
    ((stored ∙ ap (λ (first : ℕ). snapshots_with b₀ (drop first (run (planned p)).running.standing.shots.taken)) e.all) i)

-- A run that has filled its buffers, and its file. Assumes nothing.
use Prim.Native.Nat.{ℕ, ◌/◌}
use mathlib.Core.Path.{◌≡◌, sym, ap, subst⁻¹, ◌∙◌}
use mathlib.Core.List.{List}
use Rattle.std.specs.Prelude.{Result, Ok}
use Rattle.config.specs.declared.refusal.Refusal.{Refusal}
use native.Mathlib.Omega.{arith}
use lib.ListN.{length, replicate}
use lib.Seq.{sets, length-sets}
use Rattle.config.specs.Limits.{snapshot_size, log_size}
use Rattle.metrics.specs.declared.summary.Summary.{Summary}
use Rattle.phy.specs.Snapshots.{snapshot_room}
use Rattle.phy.proofs.Snapshots.{length_with_lem}
use Rattle.protocol.specs.declared.state.PaxosState.{PaxosState}
use Rattle.protocol.specs.Paxos.{State}
use Rattle.pipeline.specs.View.{states_of}
use Rattle.rules.specs.Run.{Given, run}
use Rattle.rules.specs.Answers.{outcome, ran}
use Rattle.rules.specs.Entries.{Outcome, logs_with, ran_with}
use Rattle.rounds.specs.declared.run.Plan.{Plan}
use Rattle.rounds.specs.Going.{planned}
use Rattle.sim.specs.Filling.{Fills}
use Rattle.sim.proofs.Copies.{logs_length}
use Rattle.archive.specs.declared.inputs.Inputs.{Inputs}
use Rattle.archive_writer.specs.Filed.{filed}
use Rattle.archive_writer.specs.Working.{summary_in, file_of_run, length_with, Low, CanPut, Laid, CanFile, Files}
use Rattle.archive_writer.proofs.Made.{filed_run}

-- what a run answered is its summary
pub ran_summary : (g : Given) {s : Summary} {l r k : List ℕ} (logs records snapshots : List ℕ) → ran s l r k ≡ ran_with g logs records snapshots → s ≡ summary_in g
unfolding ran_with
ran_summary g {s} logs records snapshots e = let answer : ◌≡◌ {A = Result Summary Refusal} (Ok s) (Ok (summary_in g)) = ap (λ (o : Outcome). o.answer) e in cc

module _ {p : Plan} {x : Inputs} {logs records snapshots file : List ℕ} (pre : CanFile p x logs records snapshots file) {s : Summary}
    {states : List PaxosState} {logs' records' snapshots' : List ℕ} (l : Fills p logs records snapshots s states logs' records' snapshots') where
  same_summary : s ≡ summary_in (planned p)
  same_summary = ran_summary (planned p) logs records snapshots l.buffers

  same_room : length snapshots' ≡ length snapshots
  unfolding ran_with
  same_room = ap (λ (o : Outcome). length o.snapshots) l.buffers ∙ length_with_lem snapshots (run (planned p)).running.standing.shots.taken

  same_records : length records' ≡ length records
  unfolding ran_with
  same_records = ap (λ (o : Outcome). length o.records) l.buffers ∙ simp length-sets

  -- the logs over zeros
  module _ {section : List ℕ} (own : section ≡ logs_with (replicate log_size 0) (states_of p.network.graph.nodes states) p.network.graph.nodes) where
    pub can_put : CanPut x s records' snapshots' section file
    can_put =
        let low : Low s = subst⁻¹ Low same_summary pre.counts.low in
        let size : length_with s (snapshot_room snapshots') ≡ length_with (summary_in (planned p)) (snapshot_room snapshots)
        = ap (λ (n : ℕ). length_with s (n / snapshot_size)) same_room ∙ ap (λ (y : Summary). length_with y (snapshot_room snapshots)) same_summary in
        record {
          rate = pre.rate;
          low = low;
          recorded = omega (arith, low.few_records, pre.records_long, same_records);
          logged = ap length own ∙ logs_length (replicate log_size 0) (states_of p.network.graph.nodes states) p.network.graph.nodes;
          room = omega (arith, size, pre.file_long);
        }

    -- the run into a log of zeros and the other buffers as they were
    over_zeros : ran s section records' snapshots' ≡ ran_with (planned p) (replicate log_size 0) records snapshots
    unfolding ran_with
    over_zeros =
        let logged = own ∙ ap (λ (y : List State). logs_with (replicate log_size 0) y p.network.graph.nodes) l.states in
        λ i. outcome (l.buffers i).answer (logged i) (l.buffers i).records (l.buffers i).snapshots

    pub files : {size : ℕ} {file' : List ℕ} → Laid (filed x (ran s section records' snapshots')) file size file' →
        Files p x logs records snapshots file size logs' records' snapshots' file'
    files laid =
        let is : filed x (ran s section records' snapshots') ≡ file_of_run x (planned p) (snapshot_room snapshots)
        = ap (filed x) over_zeros ∙ filed_run x (planned p) (replicate log_size 0) records snapshots pre.counts.low.few_records pre.records_long in
        record {
          buffers = ap (λ (y : Summary). ran y logs' records' snapshots') (sym same_summary) ∙ l.buffers;
          laid = record { sized = laid.sized ∙ ap length is; contents = laid.contents ∙ ap (sets file 0) is };
        }

-- What acceptance says of a run. Assumes nothing.
use Prim.Native.Nat.{ℕ, ◌≤◌}
use mathlib.Core.List.{List, ◌++◌, append_assoc}
use mathlib.Core.Logic.{⊎_elim}
use Rattle.std.specs.Prelude.{Option, Some, None, Ok, Err}
use mathlib.Core.Path.{◌≡◌, refl, sym, ap, ◌∙◌}
use native.Mathlib.Omega.{arith}
use borrow.Author.Tests.{le-leb}
use lib.ListN.{length}
use Rattle.config.specs.Limits.{log_size, records_size}
use Rattle.network.specs.Questions.{first_no}
use Rattle.network.proofs.Distances.{diameter_lt}
use Rattle.network.proofs.Within.{first_no_lem, all_yes}
use Rattle.metrics.specs.declared.summary.Summary.{Summary}
use Rattle.config.specs.declared.Config.{Config}
use Rattle.config.specs.declared.refusal.Refusal.{Refusal}
use Rattle.rules.specs.declared.networks.Network.{Network}
use Rattle.rules.specs.Networks.{RowsOrTopology, network_questions, network_for}
use Rattle.rules.specs.Questions.{config_questions, buffer_questions, run_questions, questions_for, refusal_for, run_refusal_for}
use Rattle.rules.specs.Accepted.{MeasuredGraph, Accepted}
use Rattle.rules.specs.Run.{Given, run}
use Rattle.rules.specs.Entries.{summary_of, ran_with, given_as, given_for, outcome_of, outcome_for}
use Rattle.rules.proofs.FirstNo.{both_none, either_no, config_facts, buffer_no, buffer_facts}
use Rattle.rules.proofs.Found.{network_measured, network_found, network_no, network_yes}

-- the buffers are long enough
pub record Roomy (logs records : List ℕ) : Type 0 where
  pub for_logs : log_size ≤ length logs
  pub for_records : records_size ≤ length records

-- a graph with a configuration that its questions let pass
pub accepts : {graph : List ℕ} {n d : ℕ} (c : Config) → MeasuredGraph graph n d → first_no (config_questions c) ≡ None → Accepted (given_as graph n d c)
accepts {graph} {n} {d} c graph_is e =
    let q = config_facts c e in
    record {
      checked = graph_is.checked;
      two = graph_is.two;
      few = graph_is.few;
      measured = graph_is.measured;
      diameter_low = omega (arith, graph_is.measured, diameter_lt graph n graph_is.checked (omega (arith, graph_is.two)), graph_is.few);
      repeats_low = q.repeats.0;
      repeats_high = q.repeats.1;
      round_slots = q.slots;
      slots_suffice = q.suffice;
      proposals = q.proposals;
      interval = q.interval;
    }

-- the network that was asked for
pub network_accepts : (q : RowsOrTopology) (x : Network) (c : Config) → Ok x ≡ network_for q → first_no (config_questions c) ≡ None → Accepted (given_as x.graph.rows x.graph.nodes x.diameter c)
network_accepts q x c e = accepts c (network_found q x e).measured

-- what the questions of the network and of the configuration let pass
pub accepted_for : (q : RowsOrTopology) (c : Config) → refusal_for q c ≡ None → Accepted (given_for q c)
unfolding refusal_for
accepted_for q c e = let yes = both_none (network_questions q) (config_questions c) e in accepts c (network_measured q yes.0) yes.1

roomy : (logs records : List ℕ) → first_no (buffer_questions (length logs) (length records)) ≡ None → Roomy logs records
roomy logs records e = let long = buffer_facts (length logs) (length records) e in record { for_logs = long.0; for_records = long.1 }

-- a run that is not refused
pub ran_so : (o : Option Refusal) (g : Given) (logs records snapshots : List ℕ) (s : Summary) → (outcome_of o g logs records snapshots).answer ≡ Ok s
    → (o ≡ None) × (summary_of g (run g) ≡ s)
unfolding ran_with
ran_so None g logs records snapshots s e = (refl, cc)
ran_so (Some k) g logs records snapshots s e = absurd (let z : ◌≡◌ {A = ℕ} 0 1 = cc in omega arith)

-- a run that is refused
pub refused_so : (o : Option Refusal) (g : Given) (logs records snapshots : List ℕ) (k : Refusal) → (outcome_of o g logs records snapshots).answer ≡ Err k → o ≡ Some k
unfolding ran_with
refused_so None g logs records snapshots k e = absurd (let z : ◌≡◌ {A = ℕ} 0 1 = cc in omega arith)
refused_so (Some j) g logs records snapshots k e = cc

-- An accepted run: every question is answered "yes", and the outcome and the summary are those of the run.
pub record Admitted (q : RowsOrTopology) (c : Config) (logs records snapshots : List ℕ) (s : Summary) : Type 0 where
  pub passes : refusal_for q c ≡ None
  pub accepted : Accepted (given_for q c)
  pub roomy : Roomy logs records
  pub ran : outcome_for q c logs records snapshots ≡ ran_with (given_for q c) logs records snapshots
  pub summary : summary_of (given_for q c) (run (given_for q c)) ≡ s

pub admitted : (q : RowsOrTopology) (c : Config) (logs records snapshots : List ℕ) (s : Summary) → (outcome_for q c logs records snapshots).answer ≡ Ok s → Admitted q c logs records snapshots s
unfolding outcome_for run_refusal_for
admitted q c logs records snapshots s e =
    let g : Given = given_for q c in
    let r = ran_so (run_refusal_for q c (length logs) (length records)) g logs records snapshots s e in
    let yes = both_none (network_questions q) (run_questions c (length logs) (length records)) r.0 in
    let pass = both_none (config_questions c) (buffer_questions (length logs) (length records)) yes.1 in
    let passes : refusal_for q c ≡ None = network_yes q c yes.0 ∙ pass.0 in
    record {
      passes = passes;
      accepted = accepted_for q c passes;
      roomy = roomy logs records pass.1;
      ran = ap (λ (o : Option Refusal). outcome_of o g logs records snapshots) r.0;
      summary = r.1;
    }

-- what they let pass is run, if the buffers are long enough
pub admits : (q : RowsOrTopology) (c : Config) (logs records snapshots : List ℕ) → refusal_for q c ≡ None → Roomy logs records
    → (outcome_for q c logs records snapshots).answer ≡ Ok (summary_of (given_for q c) (run (given_for q c)))
unfolding outcome_for refusal_for run_refusal_for ran_with
admits q c logs records snapshots e room =
    let yes = both_none (network_questions q) (config_questions c) e in
    let rest = buffer_questions (length logs) (length records) in
    let long : first_no rest ≡ None = rw (le-leb log_size (length logs) room.for_logs, le-leb records_size (length records) room.for_records) in
    ap (λ (o : Option Refusal). (outcome_of o (given_for q c) logs records snapshots).answer)
    (all_yes (network_questions q) (config_questions c ++ rest) yes.0 ∙ all_yes (config_questions c) rest yes.1 ∙ long)

-- what they refuse is refused by the same number, whatever its buffers are
pub refuses : (q : RowsOrTopology) (c : Config) (logs records snapshots : List ℕ) (question : Refusal) → refusal_for q c ≡ Some question
    → (outcome_for q c logs records snapshots).answer ≡ Err question
unfolding outcome_for refusal_for run_refusal_for
refuses q c logs records snapshots question e =
    let rest = buffer_questions (length logs) (length records) in
    ap (λ (o : Option Refusal). (outcome_of o (given_for q c) logs records snapshots).answer)
    (ap first_no (sym (append_assoc (network_questions q) (config_questions c) rest)) ∙ first_no_lem (questions_for q c) rest question e)

-- a run that is refused, and not for its buffers, is refused by them
pub refused_for : (q : RowsOrTopology) (c : Config) (logs records snapshots : List ℕ) (question : Refusal)
    → (outcome_for q c logs records snapshots).answer ≡ Err question → (question ≡ Refusal.ShortBuffers → ⊥) → refusal_for q c ≡ Some question
unfolding outcome_for run_refusal_for
refused_for q c logs records snapshots question e other =
    ⊎_elim (network_no q c question)
    (λ h. network_yes q c h.0
    ∙ ⊎_elim (λ w. w) (λ w. absurd (other (buffer_no (length logs) (length records) question w.1)))
    (either_no (config_questions c) (buffer_questions (length logs) (length records)) question h.1))
    (either_no (network_questions q) (run_questions c (length logs) (length records)) question
    (refused_so (run_refusal_for q c (length logs) (length records)) (given_for q c) logs records snapshots question e))

-- The outcome of a run, from what asking for its network answered. Assumes nothing.
use Prim.Native.Nat.{ℕ}
use mathlib.Core.Path.{◌≡◌, sym, ap, ap₂}
use mathlib.Core.List.{List}
use Rattle.std.specs.Prelude.{Option, Some, Err}
use lib.ListN.{length}
use Rattle.config.specs.declared.Config.{Config}
use Rattle.network.specs.Questions.{first_no}
use Rattle.network.proofs.Within.{first_no_lem, all_yes}
use Rattle.config.specs.declared.refusal.Refusal.{Refusal}
use Rattle.rules.specs.Networks.{RowsOrTopology, network_questions}
use Rattle.rules.specs.Questions.{run_questions, run_refusal_for}
use Rattle.rules.specs.Run.{Given}
use Rattle.rules.specs.Entries.{given_for, outcome_of, run_of_graph, outcome_for}
use Rattle.rules.specs.Answers.{outcome}
use Rattle.rules.proofs.Found.{Found}

module _ (q : RowsOrTopology) (c : Config) (logs records snapshots : List ℕ) where
  -- the questions of its network refuse it
  pub outcome_refused : (k : Refusal) → first_no (network_questions q) ≡ Some k → outcome (Err k) logs records snapshots ≡ outcome_for q c logs records snapshots
  unfolding outcome_for run_refusal_for
  outcome_refused k e =
      ap (λ (o : Option Refusal). outcome_of o (given_for q c) logs records snapshots)
      (sym (first_no_lem (network_questions q) (run_questions c (length logs) (length records)) k e))

  -- they let it pass
  pub outcome_passed : {graph : List ℕ} {n d : ℕ} → Found q graph n d → run_of_graph graph n d c logs records snapshots ≡ outcome_for q c logs records snapshots
  unfolding outcome_for run_refusal_for
  outcome_passed f =
      ap₂ (λ (o : Option Refusal) (g : Given). outcome_of o g logs records snapshots)
      (sym (all_yes (network_questions q) (run_questions c (length logs) (length records)) f.passes)) (f.given c)

-- What is filed or refused, question by question. Assumes nothing.
use Prim.Native.Nat.{ℕ}
use mathlib.Core.Path.{◌≡◌, sym, ap, subst, ◌∙◌}
use mathlib.Core.Bool.{Bool, true, false, not, cond, true≢false}
use mathlib.Core.List.{List, [], ◌∷◌, ◌++◌}
use Rattle.std.specs.Prelude.{Option, None, Some, Ok, Err}
use lib.Dec.{T, leb}
use lib.Ieee as Ieee
use lib.Ieee.{Float, nan, inf, fin, is_nan}
use lib.ListN.{length}
use lib.Seq.{sets}
use Rattle.config.specs.declared.Config.{Config}
use Rattle.config.specs.declared.refusal.Refusal.{Refusal}
use Rattle.config.specs.Limits.{max_terms}
use Rattle.config.proofs.Unless.{refused as no_of}
use Rattle.network.specs.Questions.{first_no}
use Rattle.network.proofs.Within.{first_no_lem, all_yes, first_yes}
use Rattle.phy.specs.Snapshots.{snapshot_room}
use Rattle.rules.specs.declared.networks.Network.{Network}
use Rattle.rules.specs.Networks.{network_questions, network_for}
use Rattle.rules.specs.Questions.{rate_allowed, round_questions, other_questions, config_questions, buffer_questions, run_questions, asked, refusal_for}
use Rattle.rules.specs.Run.{Given}
use Rattle.rules.specs.Answers.{ran}
use Rattle.rules.specs.Entries.{ran_with, outcome_for}
use Rattle.rules.proofs.FirstNo.{both_none, buffer_facts}
use Rattle.rules.proofs.Found.{Found, network_refused, network_yes}
use Rattle.rules.proofs.Admitted.{Roomy, accepts}
use Rattle.rounds.specs.declared.run.Plan.{Plan}
use Rattle.rounds.specs.Going.{planned}
use Rattle.archive.specs.declared.inputs.Inputs.{Inputs}
use Rattle.archive_writer.specs.Filed.{network_in, made}
use Rattle.archive_writer.specs.Filing.{file_questions, filing_refusal, filing, filing_unless, filing_for}
use Rattle.archive_writer.specs.Working.{file_of_run, summary_in, length_with, Low, CanCount, Files}
use Rattle.archive_writer.proofs.Made.{ran_into, made_run}
use Rattle.archive_writer.proofs.Laws.{length_run, low}

-- a loss rate that question 7 lets pass is a number
rate_number : (r : Float) → rate_allowed r ≡ true → T (not (is_nan r))
unfolding rate_allowed Ieee.le Ieee.lt Ieee.eq is_nan
rate_number nan e = absurd (true≢false (sym e))
rate_number (inf s) e = tt
rate_number (fin s m d) e = tt

pub rate_passed : (c : Config) → first_no (config_questions c) ≡ None → T (not (is_nan c.loss_rate))
rate_passed c e =
    rate_number c.loss_rate
    (first_yes (rate_allowed c.loss_rate, Refusal.LossRate) ((leb c.num_proposals max_terms, Refusal.ProposalCount) ∷ (leb 1 c.snapshot_interval, Refusal.ZeroInterval) ∷ []) (both_none (round_questions c) (other_questions c) e).1).0

module _ (x : Inputs) (logs records snapshots file : List ℕ) where
  abbrev refusal : Option Refusal
  refusal = filing_refusal x (made x (snapshot_room snapshots)) (length logs) (length records) (length file)

  abbrev asks : List (Bool × Refusal)
  asks = run_questions x.config (length logs) (length records)

  -- a refusal
  refused : (k : Refusal) → refusal ≡ Some k → filing (Err k) logs records snapshots file ≡ filing_for x logs records snapshots file
  unfolding filing_for
  refused k e = ap (λ (o : Option Refusal). filing_unless o x logs records snapshots file) (sym e)

  -- the questions of the network refuse
  pub network_refuses : (k : Refusal) → Err k ≡ network_for (network_in x) → filing (Err k) logs records snapshots file ≡ filing_for x logs records snapshots file
  unfolding filing_refusal
  network_refuses k e =
      refused k
      (first_no_lem (network_questions (network_in x) ++ asks) (file_questions (made x (snapshot_room snapshots)) (length file)) k
      (first_no_lem (network_questions (network_in x)) asks k (network_refused (network_in x) k e)))

  module _ (network : Network) (f : Found (network_in x) network.graph.rows network.graph.nodes network.diameter) where
    -- those of the configuration and of the buffers refuse
    pub run_refuses : (k : Refusal) → Err k ≡ asked asks → filing (Err k) logs records snapshots file ≡ filing_for x logs records snapshots file
    unfolding filing_refusal
    run_refuses k e =
        refused k
        (first_no_lem (network_questions (network_in x) ++ asks) (file_questions (made x (snapshot_room snapshots)) (length file)) k
        (all_yes (network_questions (network_in x)) asks f.passes ∙ no_of tt (first_no asks) k (sym e)))

    -- they let the run pass
    module _ (yes : first_no asks ≡ None) where
      abbrev plan : Plan
      plan = record { network = network; config = x.config }

      parts : (first_no (config_questions x.config) ≡ None) × (first_no (buffer_questions (length logs) (length records)) ≡ None)
      parts = both_none (config_questions x.config) (buffer_questions (length logs) (length records)) yes

      passes : refusal_for (network_in x) x.config ≡ None
      passes = network_yes (network_in x) x.config f.passes ∙ parts.0

      pub long : Roomy logs records
      long = let both = buffer_facts (length logs) (length records) parts.1 in record { for_logs = both.0; for_records = both.1 }

      pub rate_is : T (not (is_nan x.config.loss_rate))
      rate_is = rate_passed x.config parts.0

      pub counts : CanCount plan
      counts =
          record {
            accepted = accepts x.config f.measured parts.0;
            low = subst (λ (g : Given). Low (summary_in g)) (sym (f.given x.config)) (low x passes);
          }

      -- the file that is made, and its length
      made_is : made x (snapshot_room snapshots) ≡ file_of_run x (planned plan) (snapshot_room snapshots)
      made_is = made_run x passes (snapshot_room snapshots) ∙ ap (λ (g : Given). file_of_run x g (snapshot_room snapshots)) (sym (f.given x.config))

      answers : (b : Bool) → leb (length_with (summary_in (planned plan)) (snapshot_room snapshots)) (length file) ≡ b → refusal ≡ cond b None (Some Refusal.ShortFile)
      unfolding filing_refusal
      answers b e =
          all_yes (network_questions (network_in x) ++ asks) (file_questions (made x (snapshot_room snapshots)) (length file)) (all_yes (network_questions (network_in x)) asks f.passes ∙ yes)
          ∙ ap (λ (size : ℕ). cond (leb size (length file)) None (Some Refusal.ShortFile)) (ap length made_is ∙ length_run (planned plan) x (snapshot_room snapshots))
          ∙ ap (λ (c : Bool). cond c None (Some Refusal.ShortFile)) e

      -- the lent bytes are too few for the file
      pub too_short : leb (length_with (summary_in (planned plan)) (snapshot_room snapshots)) (length file) ≡ false
          → filing (Err Refusal.ShortFile) logs records snapshots file ≡ filing_for x logs records snapshots file
      too_short e = refused Refusal.ShortFile (answers false e)

      -- they suffice
      module _ (e : leb (length_with (summary_in (planned plan)) (snapshot_room snapshots)) (length file) ≡ true) {size : ℕ} {logs' records' snapshots' file' : List ℕ}
          (r : Files plan x logs records snapshots file size logs' records' snapshots' file') where
        left : ran (summary_in (planned plan)) logs' records' snapshots' ≡ outcome_for (network_in x) x.config logs records snapshots
        left = r.buffers ∙ ap (λ (g : Given). ran_with g logs records snapshots) (f.given x.config) ∙ sym (ran_into x passes logs records snapshots long)

        pub was_filed : filing (Ok size) logs' records' snapshots' file' ≡ filing_for x logs records snapshots file
        unfolding filing_for
        was_filed =
            (λ i. filing (Ok ((r.laid.sized ∙ ap length (sym made_is)) i)) (left i).logs (left i).records (left i).snapshots
            ((r.laid.contents ∙ ap (sets file 0) (sym made_is)) i))
            ∙ ap (λ (o : Option Refusal). filing_unless o x logs records snapshots file) (sym (answers true e))

-- The run of one seed, over tables that are blank before and behind it. Assumes nothing.
use Prim.Native.Nat.{ℕ}
use mathlib.Core.Path.{◌≡◌, ap, subst, ◌∙◌}
use mathlib.Core.List.{List}
use native.Mathlib.Omega.{arith}
use lib.ListN.{length}
use Rattle.config.specs.Limits.{most_rounds}
use Rattle.metrics.specs.declared.summary.Summary.{Summary}
use Rattle.protocol.specs.declared.state.PaxosState.{PaxosState}
use Rattle.pipeline.specs.declared.records.History.{History}
use Rattle.pipeline.specs.View.{table_size, Started, NoTerms}
use Rattle.rules.specs.Accepted.{Accepted}
use Rattle.rounds.specs.declared.run.Plan.{Plan}
use Rattle.rounds.specs.declared.run.Stopped.{Stopped}
use Rattle.rounds.specs.Going.{planned, Stops}
use Rattle.sim.specs.Filling.{summary_from}
use Rattle.sim.proofs.Filled.{over, summary_is}
use Rattle.sweep.specs.Sweep.{summary_in}
use Rattle.sweep.specs.Working.{plan_with, RunsSeed}

module _ (p : Plan) (seed : ℕ) (ok : Accepted (planned p)) where
  -- what is accepted is accepted whatever the seed
  accepted_with : Accepted (planned (plan_with p seed))
  accepted_with =
      record {
        checked = ok.checked;
        two = ok.two;
        few = ok.few;
        measured = ok.measured;
        diameter_low = ok.diameter_low;
        repeats_low = ok.repeats_low;
        repeats_high = ok.repeats_high;
        round_slots = ok.round_slots;
        slots_suffice = ok.slots_suffice;
        proposals = ok.proposals;
        interval = ok.interval;
      }

  -- the plan of the seed's run
  module _ {q : Plan} (same : q ≡ plan_with p seed) where
    module _ {r : Stopped} {b₀ : List ℕ} {states : List PaxosState} {history : History} {snapshots : List ℕ} (e : Stops q (most_rounds p.config.num_proposals) r b₀ states history snapshots) where
      stopped : Stops (plan_with p seed) (most_rounds p.config.num_proposals) r b₀ states history snapshots
      stopped = subst (λ (x : Plan). Stops x (most_rounds p.config.num_proposals) r b₀ states history snapshots) same e

      pub table_room : length states ≡ table_size p.network.graph.nodes
      table_room = stopped.goes.steady.sharing.kept.room

      pub runs_seed : {s : Summary} {states' : List PaxosState} {history' : History} → s ≡ summary_from p.network.graph.nodes r → length states' ≡ length states → NoTerms p.network.graph.nodes states' → Started 0 history'
          → RunsSeed p seed s states' history'
      unfolding summary_in
      runs_seed {s} is size no-terms unstarted =
          record {
            summary = is ∙ summary_is (over stopped.goes);
            few = omega (arith, ap (λ (x : Summary). x.rounds) is, e.goes.few, ok.proposals);
            blank = record { room = size ∙ table_room; each = no-terms; started = unstarted };
          }

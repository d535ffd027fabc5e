-- The sweep that is asked for, from what its questions answered. Assumes nothing.
use Prim.Native.Nat.{ℕ, ◌*◌, ◌≤◌}
use mathlib.Core.Path.{◌≡◌, sym, ap, ◌∙◌}
use mathlib.Core.Bool.{◌&&◌}
use mathlib.Core.List.{List, [], map}
use Rattle.std.specs.Prelude.{Option, Some, None, Result, Ok, Err}
use borrow.Author.Tests.{leb-true}
use lib.Dec.{leb}
use lib.ListN.{length}
use Rattle.config.specs.declared.Config.{Config}
use Rattle.config.specs.declared.refusal.Refusal.{Refusal}
use Rattle.metrics.specs.declared.summary.Summary.{Summary}
use Rattle.network.specs.Questions.{first_no}
use Rattle.network.proofs.Sets.{and_both}
use Rattle.network.proofs.Within.{first_no_lem, first_yes, all_yes}
use Rattle.rules.specs.declared.networks.Network.{Network}
use Rattle.rules.specs.Networks.{RowsOrTopology, network_questions}
use Rattle.rules.proofs.Found.{Found}
use Rattle.sweep.specs.Sweep.{swept_size, max_seeds, with_seed, summary_in, summary_for, table_questions, sweep_questions, sweep_refusal_for, swept, swept_unless, sweep_for}
use Rattle.sweep.specs.Working.{summary_with, Sweeps}

-- what question 15 leaves
pub table_facts : (seeds table : ℕ) → first_no (table_questions seeds table) ≡ None → (seeds ≤ max_seeds) × (swept_size * seeds ≤ table)
table_facts seeds table e =
    let both = and_both (leb seeds max_seeds) (leb (swept_size * seeds) table) (first_yes (leb seeds max_seeds && leb (swept_size * seeds) table, Refusal.SweepTable) [] e).0 in
    (leb-true seeds max_seeds both.0, leb-true (swept_size * seeds) table both.1)

module _ (q : RowsOrTopology) (c : Config) (seeds table : List ℕ) where
  abbrev refusal : Option Refusal
  refusal = sweep_refusal_for q c (length seeds) (length table)

  -- the questions of its network refuse it
  pub network_refuses : (question : Refusal) → first_no (network_questions q) ≡ Some question → refusal ≡ Some question
  unfolding sweep_refusal_for
  network_refuses question e = first_no_lem (network_questions q) (sweep_questions c (length seeds) (length table)) question e

  -- they let it pass, and its other questions are left
  pub network_passes : first_no (network_questions q) ≡ None → refusal ≡ first_no (sweep_questions c (length seeds) (length table))
  unfolding sweep_refusal_for
  network_passes e = all_yes (network_questions q) (sweep_questions c (length seeds) (length table)) e

  pub refused : (question : Refusal) → refusal ≡ Some question → ◌≡◌ {A = Result ℕ Refusal × List ℕ} (Err question, table) (sweep_for q c seeds table)
  unfolding sweep_for
  refused question e = ap (λ (o : Option Refusal). swept_unless o (map (summary_for q c) seeds) table) (sym e)

  unrefused : refusal ≡ None → ◌≡◌ {A = Result ℕ Refusal × List ℕ} (swept (map (summary_for q c) seeds) table) (sweep_for q c seeds table)
  unfolding sweep_for
  unrefused e = ap (λ (o : Option Refusal). swept_unless o (map (summary_for q c) seeds) table) (sym e)

  -- what was swept of its graph is what was asked for
  pub swept_asked : {network : Network} → Found q network.graph.rows network.graph.nodes network.diameter → refusal ≡ None → {rounds : ℕ} {after : List ℕ}
      → Sweeps (record { network = network; config = c }) seeds table rounds after → ◌≡◌ {A = Result ℕ Refusal × List ℕ} (Ok rounds, after) (sweep_for q c seeds table)
  swept_asked {network} found e done =
      let same : summary_with (record { network = network; config = c }) ≡ summary_for q c = λ i seed. summary_in (found.given (with_seed c seed) i) in
      (λ i. (Ok (done.sum i), done.lines i)) ∙ ap (λ (f : ℕ → Summary). swept (map f seeds) table) same ∙ unrefused e

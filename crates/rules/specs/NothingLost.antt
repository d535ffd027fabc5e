-- When the attempts of an accepted run equal its successes, which demand 3 takes for granted (rule 12.3): exactly when none of them was
-- lost; so at a loss rate of 0 or minus 0.
use Rattle.std.specs.Prelude.{ℕ, ◌<◌, true, List, ◌↔◌, ◌≡◌}
use Rattle.random.specs.Reception.{lossless}
use Rattle.metrics.specs.declared.summary.Summary.{Summary}
use Rattle.config.specs.declared.Config.{Config}
use Rattle.std.specs.Prelude.{Ok}
use Rattle.rules.specs.Run.{run}
use Rattle.rules.specs.Networks.{RowsOrTopology}
use Rattle.rules.specs.Entries.{given_for, outcome_for}
use Rattle.rules.specs.ExactRounds.{ExactRounds, Suited}

-- a run of rows or of a topology that is accepted with the summary s: attempts and successes are equal exactly when every attempt was heard
abbrev pub EqualWhenHeard : Type 0
EqualWhenHeard =
    (q : RowsOrTopology) (c : Config) (logs records snapshots : List ℕ) (s : Summary) →
    (outcome_for q c logs records snapshots).answer ≡ Ok s →
    (s.attempts ≡ s.successes) ↔ ((k : ℕ) → k < s.attempts → (given_for q c).heard k ≡ true)

-- attempts and successes of an accepted run are equal where the loss rate is 0 or minus 0
abbrev pub EqualAtRate0 : Type 0
EqualAtRate0 =
    (q : RowsOrTopology) (c : Config) (logs records snapshots : List ℕ) (s : Summary) →
    (outcome_for q c logs records snapshots).answer ≡ Ok s →
    lossless c.loss_rate ≡ true →
    s.attempts ≡ s.successes

-- what demand 3 concludes holds of every accepted run at a loss rate of 0 or minus 0 whose configuration is suited
abbrev pub ExactAtRate0 : Type 0
ExactAtRate0 =
    (q : RowsOrTopology) (c : Config) (logs records snapshots : List ℕ) (s : Summary) →
    (outcome_for q c logs records snapshots).answer ≡ Ok s →
    lossless c.loss_rate ≡ true →
    Suited (given_for q c) →
    ExactRounds (given_for q c) (run (given_for q c)) s
    (outcome_for q c logs records snapshots).logs (outcome_for q c logs records snapshots).records

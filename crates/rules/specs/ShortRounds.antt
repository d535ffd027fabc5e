-- What question 16 leaves, and what it rules out (rules 6.10, 9.2, 12.5 and 12.9).
use Rattle.std.specs.Prelude.{ℕ, ◌*◌, ◌≤◌, ◌<◌, List, ◌∷◌, ◌≡◌}
use Rattle.std.proofs.Math.Option.{some}
use Rattle.std.proofs.Math.ListN.{get_elem?}
use Rattle.config.specs.Limits.{max_repeats}
use Rattle.config.specs.declared.refusal.Refusal.{Refusal}
use Rattle.config.specs.declared.Config.{Config}
use Rattle.std.specs.Prelude.{Some}
use Rattle.metrics.specs.declared.summary.Summary.{Summary}
use Rattle.network.specs.Questions.{within, first_no}
use Rattle.phy.specs.Asleep.{InitiatorSlept, NobodySlept}
use Rattle.std.specs.Prelude.{Ok}
use Rattle.rules.specs.Networks.{RowsOrTopology}
use Rattle.rules.specs.Questions.{slots_allowed, slots_suffice, other_questions, config_questions}
use Rattle.rules.specs.Run.{Given, Past, run}
use Rattle.rules.specs.Entries.{summary_of, given_for, outcome_for}

-- In every round of every accepted run, of rows or of a topology, the node that starts it floods as often as it has repeats and then sleeps.
abbrev pub InitiatorsSleep : Type 0
InitiatorsSleep =
    (q : RowsOrTopology) (c : Config) (logs records snapshots : List ℕ) (s : Summary) →
    (outcome_for q c logs records snapshots).answer ≡ Ok s →
    (k : ℕ) (p : Past) → get_elem? (run (given_for q c)).running.rounds k ≡ some p →
    InitiatorSlept c.flood_repeats p.initiator p.before p.flooded

-- ---- what such rounds were before they were refused

-- A run whose rounds have so few slots that no node reaches sleep: in each round the node that starts it takes part alone, and every round
-- has all its slots; so nobody ever sleeps, as many nodes took part as there were rounds, and the slots are the rounds times their length.
pub record Unfinished (g : Given) (longest : ℕ) : Type 0 where
  pub each : (k : ℕ) (p : Past) → get_elem? (run g).running.rounds k ≡ some p → NobodySlept g.nodes longest p.initiator p.before p.flooded
  pub sleep : (summary_of g (run g)).sleep ≡ 0
  pub took_part : (summary_of g (run g)).took_part ≡ (summary_of g (run g)).rounds
  pub slots : (summary_of g (run g)).slots ≡ (summary_of g (run g)).rounds * longest

-- Every run by the rules whose round slots are below its repeats, whatever else it is given.
abbrev pub ShortRoundsUnfinished : Type 0
ShortRoundsUnfinished =
    (g : Given) (longest : ℕ) →
    1 ≤ g.nodes → g.round_slots ≡ Some longest → longest < g.repeats →
    Unfinished g longest

-- ---- its place among the questions

-- 6 and 16 never both refuse what 5 lets pass: asked in the other order they give the same refusal.
abbrev pub EitherFirst : Type 0
EitherFirst =
    (c : Config) →
    first_no (config_questions c)
    ≡ first_no
    ((within 1 max_repeats c.flood_repeats, Refusal.RepeatCount)
    ∷ (slots_suffice c.flood_repeats c.round_slots, Refusal.ShortRound)
    ∷ (slots_allowed c.round_slots, Refusal.RoundLength)
    ∷ other_questions c)

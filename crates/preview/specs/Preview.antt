-- A look ahead to one round of a run (rules 6.11, 9.3, 12.6 and 12.7).
use Rattle.std.specs.Prelude.{ℕ, ◌<◌, ◌≤◌, true, List, ◌≡◌, Option, Some, None, Result, Ok, Err}
use Rattle.std.proofs.Math.Option as maybe
use Rattle.std.proofs.Math.ListN.{get_elem?}
use Rattle.config.specs.declared.Config.{Config}
use Rattle.config.specs.declared.refusal.Refusal.{Refusal}
use Rattle.metrics.specs.declared.summary.Summary.{Summary}
use Rattle.rules.specs.declared.answer.SeenRound.{SeenRound}
use Rattle.rules.specs.Networks.{RowsOrTopology}
use Rattle.rules.specs.Questions.{refusal_for}
use Rattle.rules.specs.Run.{Given, Past, past_in, run_for, run}
use Rattle.rules.specs.Entries.{given_for, outcome_for}
use Rattle.rules.specs.Answers.{seen_round}
use Rattle.wire.specs.Grammar.{has_text}

-- a round of the list, or 13 where there is none
abbrev pub preview_as : maybe.Option Past → Result SeenRound Refusal
preview_as maybe.none = Err Refusal.NoSuchRound
preview_as (maybe.some p) = Ok (seen_round p)

-- Round k among the rounds that the run has: its packet, and the nodes that took part. 13 where the run ends before it.
unfoldable pub preview_in : Given → ℕ → Result SeenRound Refusal
preview_in g k = preview_as (get_elem? (run g).running.rounds k)

-- a refusal comes first
abbrev pub preview_unless : Option Refusal → Given → ℕ → Result SeenRound Refusal
preview_unless None g k = preview_in g k
preview_unless (Some question) g k = Err question

-- round k of the run that is asked for, by rows or by a topology, after the questions of the network and of the configuration
unfoldable pub preview_for : RowsOrTopology → Config → ℕ → Result SeenRound Refusal
preview_for q c k = preview_unless (refusal_for q c) (given_for q c) k

-- ---- the law the other way round

-- The run that is asked for, with the summary s, seen round by round.
pub record SeenAhead (q : RowsOrTopology) (c : Config) (s : Summary) : Type 0 where
  -- each of its rounds is what a preview shows
  pub each : (k : ℕ) (p : Past) → get_elem? (run (given_for q c)).running.rounds k ≡ maybe.some p → preview_for q c k ≡ Ok (seen_round p)
  -- so there is a preview of every round that it has, made by the rules of a round from where the run of k rounds stands
  pub made : (k : ℕ) → k < s.rounds → preview_for q c k ≡ Ok (seen_round (past_in (given_for q c) k (run_for (given_for q c) k).running))
  -- and none of a round that it hasn't
  pub beyond : (k : ℕ) → s.rounds ≤ k → preview_for q c k ≡ Err Refusal.NoSuchRound

-- Every run that is accepted is seen ahead.
abbrev pub RunsSeenAhead : Type 0
RunsSeenAhead =
    (q : RowsOrTopology) (c : Config) (logs records snapshots : List ℕ) (s : Summary) →
    (outcome_for q c logs records snapshots).answer ≡ Ok s →
    SeenAhead q c s

-- A run that is refused, and not for its buffers, has its number for every round.
abbrev pub RefusalsSeenAhead : Type 0
RefusalsSeenAhead =
    (q : RowsOrTopology) (c : Config) (logs records snapshots : List ℕ) (question : Refusal) →
    (outcome_for q c logs records snapshots).answer ≡ Err question →
    (question ≡ Refusal.ShortBuffers → ⊥) →
    (k : ℕ) → preview_for q c k ≡ Err question

-- ---- what is seen can be written

-- Every packet that a look ahead shows has a text, with as many flags as the run has nodes.
abbrev pub SeenHaveTexts : Type 0
SeenHaveTexts =
    (q : RowsOrTopology) (c : Config) (k : ℕ) (seen : SeenRound) →
    preview_for q c k ≡ Ok seen →
    has_text (given_for q c).nodes seen.packet ≡ true

-- Round k of a run, from the rounds that were played; and every run seen ahead. Assumes nothing.
use Prim.Native.Nat.{ℕ, ◌+◌, ◌-◌, ◌≤◌, ◌<◌}
use mathlib.Core.Path.{◌≡◌, refl, sym, ap, ◌∙◌}
use mathlib.Core.Option as maybe
use Rattle.std.specs.Prelude.{Option, Some, None, Ok, Err}
use Rattle.std.specs.Option.{ok_or}
use native.Mathlib.Omega.{arith}
use lib.ListN.{length, get_elem?}
use Rattle.config.specs.Limits.{most_rounds}
use Rattle.config.specs.declared.Config.{Config}
use Rattle.config.specs.declared.refusal.Refusal.{Refusal}
use Rattle.metrics.specs.declared.summary.Summary.{Summary}
use Rattle.rules.specs.Networks.{RowsOrTopology}
use Rattle.rules.specs.Questions.{refusal_for}
use Rattle.rules.specs.Run.{Given, Past, run_for, run}
use Rattle.rules.specs.Entries.{given_for}
use Rattle.rules.specs.Answers.{seen_round}
use Rattle.rules.proofs.Admitted.{admitted, refused_for}
use Rattle.rules.proofs.FirstRounds.{elem_beyond, elem_within, first_rounds, few_rounds, made_of}
use Rattle.rules.specs.declared.answer.SeenRound.{SeenRound}
use Rattle.rounds.specs.Going.{last_round}
use Rattle.preview.specs.Preview.{preview_as, preview_in, preview_unless, preview_for, RunsSeenAhead, RefusalsSeenAhead}

-- ---- from the rounds that were played

as_last : (o : maybe.Option Past) → ok_or (last_round o) Refusal.NoSuchRound ≡ preview_as o
as_last maybe.none = refl
as_last (maybe.some p) = refl

-- the last of k + 1 rounds is round k
pub from_last : (g : Given) (k : ℕ) → k < most_rounds g.proposals → (last : Option SeenRound)
    → last ≡ last_round (get_elem? (run_for g (k + 1)).running.rounds (k + 1 - 1)) → ok_or last Refusal.NoSuchRound ≡ preview_in g k
unfolding preview_in
from_last g k early last e =
    let rounds = (run_for g (k + 1)).running.rounds in
    let index : k + 1 - 1 ≡ k = omega arith in
    ap (λ (o : Option SeenRound). ok_or o Refusal.NoSuchRound) e ∙ as_last (get_elem? rounds (k + 1 - 1)) ∙ ap (λ (i : ℕ). preview_as (get_elem? rounds i)) index
    ∙ ap preview_as (first_rounds g (k + 1) k (omega arith) early)

-- no run has so many rounds
pub too_late : (g : Given) (k : ℕ) → most_rounds g.proposals ≤ k → Err Refusal.NoSuchRound ≡ preview_in g k
unfolding preview_in
too_late g k h = sym (ap preview_as (elem_beyond (run g).running.rounds k (omega (arith, h, few_rounds g (most_rounds g.proposals)))))

-- ---- refused or not

module _ (q : RowsOrTopology) (c : Config) (k : ℕ) where
  pub refused : (question : Refusal) → refusal_for q c ≡ Some question → Err question ≡ preview_for q c k
  unfolding preview_for
  refused question e = ap (λ (o : Option Refusal). preview_unless o (given_for q c) k) (sym e)

  pub unrefused : refusal_for q c ≡ None → preview_in (given_for q c) k ≡ preview_for q c k
  unfolding preview_for
  unrefused e = ap (λ (o : Option Refusal). preview_unless o (given_for q c) k) (sym e)

-- ---- every run

pub runs_seen_ahead : RunsSeenAhead
unfolding preview_in
runs_seen_ahead q c logs records snapshots s e =
    let a = admitted q c logs records snapshots s e in
    let g : Given = given_for q c in
    let rounds = (run g).running.rounds in
    let count : length rounds ≡ s.rounds = ap (λ (x : Summary). x.rounds) a.summary in
    let each : (k : ℕ) (p : Past) → get_elem? rounds k ≡ maybe.some p → preview_for q c k ≡ Ok (seen_round p) = λ k p h. sym (unrefused q c k a.passes) ∙ ap preview_as h in
    record {
      each = each;
      made = λ k h.
          let w = elem_within rounds k (omega (arith, h, count)) in
          each k w.0 w.1 ∙ ap (λ (p : Past). Ok (seen_round p)) (made_of g (most_rounds g.proposals) k w.0 w.1);
      beyond = λ k h. sym (unrefused q c k a.passes) ∙ ap preview_as (elem_beyond rounds k (omega (arith, h, count)));
    }

pub refusals_seen_ahead : RefusalsSeenAhead
refusals_seen_ahead q c logs records snapshots question e other k = sym (refused q c k question (refused_for q c logs records snapshots question e other))

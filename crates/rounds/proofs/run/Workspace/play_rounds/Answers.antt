use Rattle.std.proofs.Common.{◌≡◌, ℕ, ◌+◌, ◌⊎◌, inl, inr, Option, None, refl, sym, subst, ◌∙◌, arith}
use Rattle.rounds.specs.declared.run.Stopped.{Stopped}
use Rattle.rounds.specs.Going.{contents, Goes}
use Rattle.rounds.proofs.Underway.{end_came, no_end_came, still_same, underway_new, used_up, at_limit, at_stop, goes_on}
use Rattle.rules.specs.declared.answer.SeenRound.{SeenRound}
use Rattle.rules.specs.Answers.{end_number}
use Rattle.rounds.proofs.run.Workspace.play_rounds.Goals as goal
use Rattle.rounds.proofs.run.Workspace.play_rounds.Goals.{then-is_some-via-then-is_some, then-is_some-via-else-is_some+then-rounds-most}

pub loop-k-init : goal.loop-k-init
loop-k-init c = (
  _,
  underway_new c.args.plan.now c.args.most c.new_run-x.result (contents c.args.self.now) c.requires c.new_run-x.ensures,
  c.new_run-x.ensures.flood.all,
  record { states = refl; history = refl; snapshots = refl },
)

pub returns-then-plan-x : goal.returns-then-plan-x
returns-then-plan-x c =
    let i = c.loop-k.invariant in
    record { goes = at_limit i.1 c.loop-k-test.true c.if-plan-x.true; all_stored = i.2; tables = i.3 }

pub returns-then-is_some : goal.returns-then-is_some
returns-then-is_some c =
    let a = c.args in
    let i = c.loop-k.invariant in
    let new = c.next_round-next.result in
    let next = c.next_round-next.ensures in
    let stopped : Option SeenRound → Stopped = λ o. record { run = new.played.run; rounds = c.loop-k.k + 1; last = o; ended = new.ended } in
    let why : (end_number new.ended ≡ 0 → ⊥) ⊎ (c.loop-k.k + 1 ≡ a.most) = elim c.then-is_some.branch [
      | then-is_some-via-then-is_some w ↦ inl (end_came _ (sym c.is_some.ensures ∙ w.if-is_some.true))
      | then-is_some-via-else-is_some+then-rounds-most w ↦ inr w.if-rounds-most.true
    ] in
    record {
      goes =
          subst (λ (o : Option SeenRound). Goes a.plan.now a.most (stopped o) a.self.now.snapshots.now (contents c.next_round-next.new.self)) (sym c.then_some.ensures)
          (at_stop i.1 c.loop-k-test.true c.if-plan-x.false next.moves why);
      all_stored = next.moves.first ∙ i.2;
      tables = still_same i.3 next.tables;
    }

pub loop-k-preserved : goal.loop-k-preserved
loop-k-preserved c =
    let i = c.loop-k.invariant in
    let next = c.next_round-next.ensures in
    (_, goes_on i.1 c.loop-k-test.true c.if-plan-x.false next.moves (no_end_came _ (sym c.is_some.ensures ∙ c.if-is_some.false)) c.if-rounds-most.false, next.moves.first ∙ i.2, still_same i.3 next.tables)

pub returns : goal.returns
returns c =
    let a = c.args in
    let l = c.loop-k in
    let all : l.k ≡ a.most = omega arith in
    let stopped : ℕ → Stopped = λ k. record { run = l.x; rounds = k; last = None; ended = None } in
    record {
      goes = subst (λ (k : ℕ). Goes a.plan.now a.most (stopped k) a.self.now.snapshots.now (contents l.self)) all (used_up l.invariant.1 c.loop-k-test.false);
      all_stored = l.invariant.2;
      tables = l.invariant.3;
    }

-- `protocol::paxos::PaxosState::commit_up_to` meets its contract.
-- Assumes nothing.
use Prim.Native.Nat.{ℕ, suc, ◌+◌, ◌-◌, ◌≤◌, ◌<◌}
use mathlib.Core.Bool.{true, false}
use mathlib.Core.Path.{◌≡◌, refl, sym, ap, ◌∙◌}
use native.Mathlib.Omega.{arith}
use lib.Bits.{bit_and}
use lib.Dec.{leb}
use Rattle.config.specs.Limits.{max_terms}
use Rattle.network.specs.Graph.{has, set_of}
use Rattle.network.specs.Members.{TakesLowest}
use Rattle.network.proofs.Sets.{has_below}
use Rattle.network.proofs.Lowest.{Walked, Taken, walked_take, walk_begins, walk_ends}
use Rattle.protocol.specs.Paxos.{commit_below, commit_term, commit_to, newly_to}
use Rattle.protocol.specs.declared.state.PaxosState.{PaxosState}
use Rattle.protocol.specs.View.{view, Kept, Next}
use Rattle.protocol.proofs.Steps.{next_same, newly_set, newly_word, newly_is, turn_kept, turn_free, turn_new, turn_past}
use Rattle.protocol.proofs.state.PaxosState.commit_up_to.Goals as goal

-- the set of the terms that are newly committed
newly_is_set : (logged u reach : ℕ) → reach ≡ set_of max_terms (λ (t : ℕ). leb t u) → reach - bit_and reach logged ≡ newly_set u logged
newly_is_set logged u reach e = ap (λ (x : ℕ). x - bit_and x logged) e

-- a turn of the loop, with the lowest term that is left
module _
    (states now : PaxosState) (u newly rest m term behind : ℕ) (k : Kept max_terms states) (h : u < 64) (e : newly ≡ newly_set u states.logged)
    (lowest : TakesLowest rest term behind) (walked : Walked newly rest m) (few : m ≤ suc u) (done : Next (λ c. u < c) states now (commit_below m (view states))) where
  next : Taken newly m term behind
  next = walked_take walked lowest

  is_new : has (newly_set u states.logged) term ≡ true
  is_new = ap (λ (x : ℕ). has x term) (sym e) ∙ next.is

  at_most : term ≤ u
  at_most = omega (arith, has_below (newly_word u states.logged h) term is_new)

  so_far : Next (λ c. u < c) states now (commit_below term (view states))
  so_far = turn_past states now u m k h done term next.from (omega (arith, at_most)) (λ j g l. ap (λ (x : ℕ). has x j) (sym e) ∙ next.none j g l)

  kept : Kept max_terms now
  kept = turn_kept states now u term k h so_far

  free : has now.logged term ≡ false
  free = turn_free states now u term k h so_far at_most is_new

  after : (r : PaxosState) → Next (λ c. term < c) now r (commit_term term (view now)) → Next (λ c. u < c) states r (commit_below (term + 1) (view states))
  after r w = turn_new states now u term k h so_far r at_most w

pub loop-t-init : goal.loop-t-init
unfolding commit_below
loop-t-init c =
    let newly = c.up_to-reach.result - bit_and c.up_to-reach.result c.args.self.now.logged in
    let all : c.into_iter-t-iterator.result.left ≡ newly = cc in
    (tt, tt, (0, walk_begins all, omega arith, next_same refl))

pub commit_term-requires : goal.commit_term-requires
commit_term-requires c =
    let a = c.args in
    let l = c.loop-t in
    let i = l.invariant.2 in
    let e = newly_is_set a.self.now.logged a.last.0 _ c.up_to-reach.ensures in
    let low = c.in-Some.ensures.steps in (
      kept a.self.now l.self a.last.0 _ _ i.0 _ _ c.requires.0 c.requires.1 e low i.1 i.2 i.3,
      (next a.self.now l.self a.last.0 _ _ i.0 _ _ c.requires.0 c.requires.1 e low i.1 i.2 i.3).within,
      free a.self.now l.self a.last.0 _ _ i.0 _ _ c.requires.0 c.requires.1 e low i.1 i.2 i.3,
    )

pub loop-t-preserved : goal.loop-t-preserved
loop-t-preserved c =
    let a = c.args in
    let l = c.loop-t in
    let i = l.invariant.2 in
    let e = newly_is_set a.self.now.logged a.last.0 _ c.up_to-reach.ensures in
    let low = c.in-Some.ensures.steps in
    let most = at_most a.self.now l.self a.last.0 _ _ i.0 _ _ c.requires.0 c.requires.1 e low i.1 i.2 i.3 in (
      tt,
      tt,
      (
        c.in-Some.t + 1,
        (next a.self.now l.self a.last.0 _ _ i.0 _ _ c.requires.0 c.requires.1 e low i.1 i.2 i.3).onward,
        omega (arith, most),
        after a.self.now l.self a.last.0 _ _ i.0 _ _ c.requires.0 c.requires.1 e low i.1 i.2 i.3 _ c.commit_term.ensures,
      ),
    )

pub returns : goal.returns
unfolding commit_to newly_to
returns c =
    let a = c.args in
    let l = c.loop-t in
    let i = l.invariant.2 in
    let e = newly_is_set a.self.now.logged a.last.0 _ c.up_to-reach.ensures in
    record {
      next =
          turn_past a.self.now l.self a.last.0 i.0 c.requires.0 c.requires.1 i.3 (suc a.last.0) i.2 (omega arith)
          (λ j g k. ap (λ (x : ℕ). has x j) (sym e) ∙ walk_ends i.1 c.in-None.ensures.steps j g);
      newly = e ∙ newly_is a.last.0 c.requires.0 c.requires.1;
    }

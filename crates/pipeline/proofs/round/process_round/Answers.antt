use Prim.Native.Nat.{ℕ, ◌+◌, ◌-◌, ◌%◌, ◌^◌, ◌<◌}
use mathlib.Core.Bool.{true}
use mathlib.Core.List.{List}
use mathlib.Core.Path.{◌≡◌, sym, ap, subst⁻¹, ◌∙◌}
use native.Mathlib.Nat.{mod-lt}
use native.Mathlib.Omega.{arith}
use lib.Bits.{bit_and, and_mask}
use lib.Pow.{pow_pos}
use Rattle.network.specs.Graph.{has}
use Rattle.network.specs.Members.{TakesLowest}
use Rattle.network.proofs.Sets.{has_low, has_below}
use Rattle.network.proofs.Lowest.{Walked, Taken, walked_take, walk_begins, walk_ends}
use Rattle.network.specs.declared.units.Slot.{Slot}
use Rattle.phy.specs.declared.packet.Packet.{Packet}
use Rattle.protocol.specs.declared.state.PaxosState.{PaxosState}
use Rattle.protocol.specs.View.{TermsBelow}
use Rattle.pipeline.specs.declared.carry.Carry.{Carry}
use Rattle.pipeline.specs.declared.records.History.{History}
use Rattle.pipeline.specs.Round.{process_round}
use Rattle.pipeline.specs.View.{shared_of}
use Rattle.pipeline.proofs.Sharing.{Turned, cleared_sharing, turned_none, turned_skip, turned_more}
use Rattle.pipeline.proofs.round.process_round.Goals as goal

-- `took` is the set of the nodes below n that took part
module _ (n part full : ℕ) (is : full ≡ 2 ^ n - 1) where
  abbrev took : ℕ
  took = bit_and part full

  took_is : took ≡ part % 2 ^ n
  took_is = ap (bit_and part) is ∙ and_mask part n

  has_took : (j : ℕ) → j < n → has took j ≡ has part j
  has_took j h = ap (λ (x : ℕ). has x j) took_is ∙ has_low _ _ j h

  -- a turn of the loop, with the lowest node that is left
  module _
      {packet : Packet} {slot : Slot} {y₀ y : Carry} {b₀ b : List PaxosState} {t₀ t : History} {m rest node behind : ℕ} (lowest : TakesLowest rest node behind) (walked : Walked took rest m)
      (turned : Turned n packet slot part y₀ b₀ t₀ m y b t) where
    next : Taken took m node behind
    next = walked_take walked lowest

    below : node < n
    below = has_below (subst⁻¹ (λ (x : ℕ). x < 2 ^ n) took_is (mod-lt part (pow_pos n))) node next.is

    takes_part : has part node ≡ true
    takes_part = sym (has_took node below) ∙ next.is

    -- the nodes below it have had their turns
    so_far : Turned n packet slot part y₀ b₀ t₀ node y b t
    so_far = let h = below in turned_skip next.from (omega arith) (λ j u v. sym (has_took j (omega (arith, v))) ∙ next.none j u v) turned

pub loop-j-init : goal.loop-j-init
loop-j-init c =
    let a = c.args in
    let took = bit_and a.part c.full_set.result in
    let all : c.into_iter-j-iterator.result.left ≡ took = cc in
    (tt, tt, (0, walk_begins all, turned_none (cleared_sharing c.requires.sharing)))

pub take_turn-y-requires : goal.take_turn-y-requires
take_turn-y-requires c =
    let a = c.args in
    let i = c.loop-j.invariant.2 in
    let h = below a.n a.part c.full_set.result c.full_set.ensures c.in-Some.ensures.steps i.1 i.2 in
    let u = so_far a.n a.part c.full_set.result c.full_set.ensures c.in-Some.ensures.steps i.1 i.2 in
    record {
      n = a.n;
      sharing = u.sharing;
      node = h;
      nodes = c.requires.nodes;
      piggybacks = omega (arith, u.piggybacks, c.requires.piggybacks, c.requires.nodes, h);
      below = subst⁻¹ (λ (m : ℕ). TermsBelow m a.packet) u.counter c.requires.below;
    }

pub loop-j-preserved : goal.loop-j-preserved
loop-j-preserved c =
    let a = c.args in
    let i = c.loop-j.invariant.2 in
    let h = below a.n a.part c.full_set.result c.full_set.ensures c.in-Some.ensures.steps i.1 i.2 in
    let u = so_far a.n a.part c.full_set.result c.full_set.ensures c.in-Some.ensures.steps i.1 i.2 in
    let part = takes_part a.n a.part c.full_set.result c.full_set.ensures c.in-Some.ensures.steps i.1 i.2 in
    let next_here = next a.n a.part c.full_set.result c.full_set.ensures c.in-Some.ensures.steps i.1 i.2 in
    (tt, tt, (c.in-Some.j + 1, next_here.onward, turned_more h part c.take_turn-y.ensures u))

pub returns : goal.returns
unfolding process_round shared_of
returns c =
    let a = c.args in
    let n = a.n in
    let i = c.loop-j.invariant.2 in
    let u = turned_skip {j = n} i.2.most (omega arith) (λ j g v. sym (has_took n a.part c.full_set.result c.full_set.ensures j v) ∙ walk_ends i.1 c.in-None.ensures.steps j g) i.2 in
    record {
      counter = u.counter;
      nacks = u.nacks;
      piggybacks = u.piggybacks;
      sharing = u.sharing;
      shared = u.shared;
    }

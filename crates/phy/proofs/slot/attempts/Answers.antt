use Rattle.std.proofs.Common.{ℕ, ◌+◌, List, ◌++◌, true, ◌&&◌, sym, ap, ◌∙◌, arith}
use Rattle.config.specs.Limits.{set_bits}
use Rattle.network.specs.Graph.{has, linked}
use Rattle.network.proofs.Lowest.{walk_begins, walk_ends, walked_take, has_zero}
use Rattle.network.proofs.Sets.{has_below}
use Rattle.phy.specs.Slot.{among, receivers}
use Rattle.phy.proofs.Attempts.{tried_none, tried_then, tried_as, receivers_more, receivers_skip, receivers_none, receivers_of_lem}
use Rattle.phy.proofs.slot.attempts.Goals as goal

pub returns-then-listening-eq0 : goal.returns-then-listening-eq0
returns-then-listening-eq0 c =
    let a = c.args in
    tried_as (omega arith)
    (sym (receivers_none a.rows.now (has a.awake.flooding) (has a.awake.listening) a.n a.n (λ j. ap (λ (s : ℕ). has s j) c.if-listening-eq0.true ∙ has_zero j)))
    (tried_none _ _ _)

pub loop-i-init : goal.loop-i-init
unfolding receivers
loop-i-init c =
    (0, walk_begins cc, omega arith, tried_none _ _ _)

pub bounds-rows-i : goal.bounds-rows-i
bounds-rows-i c =
    let x = walked_take c.loop-i.invariant.1 c.in-Some.ensures.steps in
    omega (arith, has_below c.requires.flooders _ x.is, c.requires.few)

pub attempts_at-tried-requires : goal.attempts_at-tried-requires
attempts_at-tried-requires c =
    let tried = c.loop-i.invariant.3 in
    let pre = c.requires in
    let x = walked_take c.loop-i.invariant.1 c.in-Some.ensures.steps in
    let i = has_below pre.flooders _ x.is in
    let from = x.from in
    (omega (arith, tried.attempts, i, from, pre.few, pre.attempts), omega (arith, tried.successes, i, from, pre.few, pre.successes))

pub loop-i-preserved : goal.loop-i-preserved
loop-i-preserved c =
    let l = c.loop-i in
    let a = c.args in
    let x = walked_take l.invariant.1 c.in-Some.ensures.steps in
    let i = c.in-Some.i in
    let list = receivers a.rows.now (has a.awake.flooding) (has a.awake.listening) a.n in (
      i + 1,
      x.onward,
      omega (arith, has_below c.requires.flooders _ x.is),
      tried_as (omega (arith, x.from))
          (ap (λ (y : List ℕ). list l.invariant.0 ++ y) (receivers_of_lem a.rows.now i a.n set_bits a.awake.listening (omega (arith, c.requires.few)) c.requires.listeners)
          ∙ ap (λ (y : List ℕ). y ++ among a.n (λ (j : ℕ). linked a.rows.now i j && has a.awake.listening j)) (sym (receivers_skip a.rows.now (has a.awake.flooding) (has a.awake.listening) a.n l.invariant.0 i x.from x.none))
          ∙ receivers_more a.rows.now (has a.awake.flooding) (has a.awake.listening) a.n i true x.is)
          (tried_then l.invariant.3 c.attempts_at-tried.ensures),
    )

pub returns : goal.returns
returns c =
    let l = c.loop-i in
    let a = c.args in
    tried_as (omega (arith, l.invariant.2)) (sym (receivers_skip a.rows.now (has a.awake.flooding) (has a.awake.listening) a.n l.invariant.0 a.n l.invariant.2 (λ i u v. walk_ends l.invariant.1 c.in-None.ensures.steps i u))) l.invariant.3

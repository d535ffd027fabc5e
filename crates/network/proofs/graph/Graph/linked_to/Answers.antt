use Rattle.std.proofs.Common.{◌<◌, ◌+◌, ◌∙◌, get_or, zero-le, arith}
use lib.Bits.{or_lt}
use lib.Pow.{pow_pos}
use Rattle.network.specs.Graph.{any}
use Rattle.network.proofs.Sets.{has_out, has_below}
use Rattle.network.proofs.Lowest.{walk_begins, walked_take, walk_ends}
use Rattle.network.proofs.Spread.{touches, touches_stop, touches_or, touches_is}
use Rattle.network.proofs.graph.Graph.linked_to.Goals as goal

pub loop-t-init : goal.loop-t-init
unfolding touches any
loop-t-init c =
    (0, zero-le, walk_begins cc, pow_pos c.args.self.now.nodes, λ j. has_out {n = 0} (pow_pos 0) j zero-le)

pub bounds-self-t : goal.bounds-self-t
bounds-self-t c = let x = walked_take c.loop-t.invariant.2 c.in-Some.ensures.steps in omega (arith, has_below c.requires.1.1 _ x.is)

pub loop-t-preserved : goal.loop-t-preserved
loop-t-preserved c =
    let a = c.args in
    let l = c.loop-t in
    let t = c.in-Some.t in
    let x = walked_take l.invariant.2 c.in-Some.ensures.steps in
    let node : t < a.self.now.nodes = has_below c.requires.1.1 _ x.is in (
      t + 1,
      omega (arith, node),
      x.onward,
      or_lt a.self.now.nodes l.found (get_or a.self.now.rows t 0) l.invariant.3 (c.requires.1.0.narrow t node),
      touches_or a.self.now.rows a.latest l.found l.invariant.4 x.from x.none x.is,
    )

pub returns : goal.returns
unfolding touches
returns c =
    let a = c.args in
    let l = c.loop-t in
    touches_is a.self.now.rows a.latest a.self.now.nodes l.found l.invariant.3
    (λ j. l.invariant.4 j ∙ touches_stop a.self.now.rows a.latest j l.invariant.1 (λ i m _. walk_ends l.invariant.2 c.in-None.ensures.steps i m))

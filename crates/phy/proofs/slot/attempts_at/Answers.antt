use Rattle.std.proofs.Common.{ℕ, ◌+◌, List, [], ◌∷◌, ◌++◌, true, sym, ap, ◌∙◌, arith}
use Rattle.config.specs.Limits.{set_bits}
use Rattle.network.specs.Graph.{has}
use Rattle.network.proofs.Lowest.{walk_begins, walk_ends, walked_take}
use Rattle.phy.specs.Slot.{among}
use Rattle.phy.proofs.Attempts.{among_skip, among_more, tried_none, tried_then, tried_as}
use Rattle.phy.proofs.slot.attempts_at.Goals as goal

pub loop-j-init : goal.loop-j-init
unfolding among
loop-j-init c =
    (0, walk_begins cc, omega arith, tried_none _ _ _)

pub loop-j-preserved : goal.loop-j-preserved
loop-j-preserved c =
    let l = c.loop-j in
    let x = walked_take l.invariant.1 c.in-Some.ensures.steps in
    let f = has c.args.set in
    let j = c.in-Some.j in (
      j + 1,
      x.onward,
      omega (arith, x.within),
      tried_as (omega (arith, x.from))
          (ap (λ (y : List ℕ). y ++ (j ∷ [])) (sym (among_skip l.invariant.0 j f x.from x.none)) ∙ among_more j f true x.is)
          (tried_then l.invariant.3 c.attempt-tried.ensures),
    )

pub returns : goal.returns
returns c =
    let l = c.loop-j in
    let set = c.args.set in
    tried_as l.invariant.2 (sym (among_skip l.invariant.0 set_bits (has set) l.invariant.2 (λ i u v. walk_ends l.invariant.1 c.in-None.ensures.steps i u))) l.invariant.3

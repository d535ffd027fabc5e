use Rattle.std.proofs.Common.{◌≡◌, ◌+◌, sym, ap₂, ◌∙◌, Bool, true, not, ◌||◌, ap, arith}
use Rattle.network.specs.Graph.{linked, backed}
use Rattle.network.proofs.Sets.{all_intro, all_false, has_below}
use Rattle.network.proofs.Lowest.{walked_take, taken_passed, walked_each}
use Rattle.network.proofs.graph.Graph.backed.Goals as goal

pub bounds-self-j : goal.bounds-self-j
bounds-self-j c = let x = walked_take c.loop-j.invariant.1 c.in-Some.ensures.steps in omega (arith, has_below c.requires.1.1 _ x.is)

pub returns-then-not-has : goal.returns-then-not-has
unfolding backed linked
returns-then-not-has c =
    let a = c.args in
    let x = walked_take c.loop-j.invariant.1 c.in-Some.ensures.steps in
    sym
    (all_false a.self.now.nodes (λ j. not (linked a.self.now.rows a.i.0 j) || linked a.self.now.rows j a.i.0) c.in-Some.j (has_below c.requires.1.1 _ x.is)
    (ap₂ (λ (u v : Bool). not u || v) x.is (sym c.has.ensures ∙ c.if-not-has.true)))

pub loop-j-preserved : goal.loop-j-preserved
unfolding linked
loop-j-preserved c =
    let a = c.args in
    let x = walked_take c.loop-j.invariant.1 c.in-Some.ensures.steps in (
      c.in-Some.j + 1,
      x.onward,
      taken_passed (λ j. not (linked a.self.now.rows a.i.0 j) || linked a.self.now.rows j a.i.0 ≡ true) x c.loop-j.invariant.2
          (λ j e. ap (λ (u : Bool). not u || linked a.self.now.rows j a.i.0) e)
          (ap₂ (λ (u v : Bool). not u || v) x.is (sym c.has.ensures ∙ c.if-not-has.false)),
    )

pub returns : goal.returns
unfolding backed linked
returns c =
    let a = c.args in
    let l = c.loop-j in
    sym
    (all_intro a.self.now.nodes (λ j. not (linked a.self.now.rows a.i.0 j) || linked a.self.now.rows j a.i.0)
    (λ j _. walked_each (λ j. not (linked a.self.now.rows a.i.0 j) || linked a.self.now.rows j a.i.0 ≡ true) l.invariant.1 c.in-None.ensures.steps l.invariant.2 (λ j e. ap (λ (u : Bool). not u || linked a.self.now.rows j a.i.0) e) j))

use Rattle.std.proofs.Common.{◌≡◌, refl, sym, ap, ap₂, ◌∙◌, zero-le, ℕ, ◌<◌, max, add-one, arith}
use Rattle.network.specs.Distance
use Rattle.network.specs.Distance.{eccentricity, diameter}
use Rattle.network.proofs.Distances.{eccentricity_lt, eccentricity_diameter, diameter_lt}
use Rattle.network.proofs.graph.Graph.diameter.Goals as goal

pub loop-a-init : goal.loop-a-init
unfolding Distance.greatest
loop-a-init c = (zero-le, refl)

pub overflow_add-far : goal.overflow_add-far
overflow_add-far c =
    let g = c.args.self.now in
    let short : c.eccentricity-far.result < g.nodes = rw c.eccentricity-far.ensures (eccentricity_lt g.rows g.nodes c.requires.1 c.loop-a.a (omega (arith, c.loop-a-test.true))) in
    omega (arith, short)

pub returns-then-far-self : goal.returns-then-far-self
returns-then-far-self c =
    let g = c.args.self.now in
    let a = c.loop-a.a in
    let low = c.loop-a-test.true in
    omega (
      arith,
      c.if-far-self.true,
      c.eccentricity-far.ensures,
      eccentricity_diameter g.rows g.nodes c.requires.1 a (omega (arith, low)),
      diameter_lt g.rows g.nodes c.requires.1 (omega (arith, low)),
    )

pub loop-a-preserved : goal.loop-a-preserved
unfolding Distance.greatest
loop-a-preserved c =
    let g = c.args.self.now in
    let f = eccentricity g.rows g.nodes in (
      omega (arith, c.loop-a-test.true),
      c.max-greatest.ensures
          ∙ ap₂ max c.loop-a.invariant.1 c.eccentricity-far.ensures
          ∙ sym (ap (λ (k : ℕ). Distance.greatest k f) (add-one c.loop-a.a)),
    )

pub returns : goal.returns
unfolding diameter
returns c =
    let e : c.loop-a.a ≡ c.args.self.now.nodes = omega (arith, c.loop-a-test.false, c.loop-a.invariant.0) in
    rw e at c.loop-a.invariant.1

use Rattle.std.proofs.Common.{◌≡◌, refl, sym, ◌∙◌, zero-le, arith}
use Rattle.network.specs.Graph.{all, row_backed}
use Rattle.network.proofs.Sets.{all_false, all_more}
use Rattle.network.proofs.Checks.{rows_backed}
use Rattle.network.proofs.graph.Graph.rows_right.Goals as goal

pub loop-i-init : goal.loop-i-init
unfolding all
loop-i-init c = (zero-le, refl)

pub returns-then-not-row_backed : goal.returns-then-not-row_backed
returns-then-not-row_backed c =
    let g = c.args.self.now in
    sym (sym (rows_backed g.rows g.nodes) ∙ all_false g.nodes (row_backed g.rows g.nodes) c.loop-i.i (omega (arith, c.loop-i-test.true)) (sym c.row_backed.ensures ∙ c.if-not-row_backed.true))

pub loop-i-preserved : goal.loop-i-preserved
loop-i-preserved c =
    let g = c.args.self.now in
    (omega (arith, c.loop-i-test.true), all_more c.loop-i.i (row_backed g.rows g.nodes) c.loop-i.invariant.1 (sym c.row_backed.ensures ∙ c.if-not-row_backed.false))

pub returns : goal.returns
returns c =
    let g = c.args.self.now in
    let e : c.loop-i.i ≡ g.nodes = omega (arith, c.loop-i-test.false, c.loop-i.invariant.0) in
    sym (sym (rows_backed g.rows g.nodes) ∙ (rw e at c.loop-i.invariant.1))

use Rattle.std.proofs.Common.{◌^◌, ◌<◌, ap, ap₂, sym, ◌∙◌, Bool, not, ◌&&◌, get_or, arith}
use lib.Pow.{pow_pos}
use borrow.Author.Tests.{lt-ltb, le-ltb}
use Rattle.network.specs.Graph.{linked, backed, row_backed}
use Rattle.network.proofs.graph.Graph.row_backed.Goals as goal

pub returns-then-full_set-set : goal.returns-then-full_set-set
unfolding row_backed
returns-then-full_set-set c =
    let g = c.args.self.now in
    rw (le-ltb (get_or g.rows c.args.i.0 0) (2 ^ g.nodes) (omega (arith, pow_pos g.nodes)))

pub returns-then-not-has : goal.returns-then-not-has
unfolding row_backed linked
returns-then-not-has c =
    let narrow : get_or c.args.self.now.rows c.args.i.0 0 < 2 ^ c.args.self.now.nodes = omega (arith, pow_pos c.args.self.now.nodes) in
    rw (lt-ltb _ _ narrow) (sym (ap (λ (x : Bool). not x && c.backed.result) c.if-not-has.true) ∙ ap₂ (λ (x y : Bool). not x && y) c.has.ensures c.backed.ensures)

pub returns-else-not-has : goal.returns-else-not-has
unfolding row_backed linked
returns-else-not-has c =
    let g = c.args.self.now in
    let narrow : get_or g.rows c.args.i.0 0 < 2 ^ g.nodes = omega (arith, pow_pos g.nodes) in
    let rest = backed g.rows g.nodes c.args.i.0 in
    rw (lt-ltb _ _ narrow) (ap not c.if-not-has.false ∙ sym (ap (λ (x : Bool). not x && rest) c.if-not-has.false) ∙ ap (λ (x : Bool). not x && rest) c.has.ensures)

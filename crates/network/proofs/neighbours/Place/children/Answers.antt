-- The numbers from the first child to the last, or to the last node.
use Rattle.std.proofs.Common.{◌+◌, ◌-◌, ◌*◌, sym, ap, ap₂, ◌∙◌, Bool, ◌&&◌, arith}
use borrow.Author.Tests.{lt-leb}
use lib.Dec.{leb}
use lib.Pow.{pow_mono}
use Rattle.network.specs.Topology.{child}
use Rattle.network.proofs.Masks.{set_of_none, children_set}
use Rattle.network.proofs.neighbours.Place.children.Goals as goal

pub returns-then-self-first : goal.returns-then-self-first
returns-then-self-first c =
    let a = c.args in
    sym (set_of_none a.self.nodes (child a.b a.self.at) (λ j l. ap (λ (x : Bool). x && leb j (a.self.at * a.b + a.b)) (lt-leb (a.self.at * a.b + 1) j (omega arith))))

pub overflow_sub-result : goal.overflow_sub-result
overflow_sub-result c = let a = c.args in omega (arith, c.full_set.ensures, c.full_set-then-end-self.ensures, pow_mono {i = a.self.at * a.b + 1} {j = a.self.at * a.b + 1 + a.b} (omega arith))

pub returns-then-end-self : goal.returns-then-end-self
returns-then-end-self c =
    let a = c.args in
    ap₂ ◌-◌ c.full_set.ensures c.full_set-then-end-self.ensures
    ∙ children_set a.b a.self.nodes a.self.at (a.self.at * a.b + 1 + a.b) (omega arith) (omega arith) (omega arith) (λ j p q. omega (arith, p))

pub overflow_sub-result-2 : goal.overflow_sub-result-2
overflow_sub-result-2 c = let a = c.args in omega (arith, c.full_set-2.ensures, c.full_set-3.ensures, pow_mono {i = a.self.at * a.b + 1} {j = a.self.nodes} (omega arith))

pub returns : goal.returns
returns c =
    let a = c.args in
    ap₂ ◌-◌ c.full_set-2.ensures c.full_set-3.ensures
    ∙ children_set a.b a.self.nodes a.self.at a.self.nodes (omega arith) (omega arith) (omega arith) (λ j p q. omega (arith, p, q))

-- The quotient is the only node whose child i is.
use Rattle.std.proofs.Common.{◌+◌, ◌*◌, sym, ap, ◌∙◌, Bool, ◌&&◌, arith}
use borrow.Author.Tests.{lt-leb}
use lib.Dec.{leb}
use Rattle.network.specs.Topology.{child}
use Rattle.network.proofs.Lowest.{nonzero}
use Rattle.network.proofs.Sets.{set_of_cong}
use Rattle.network.proofs.Masks.{set_of_none, childless, parent_is}
use Rattle.network.proofs.neighbours.Place.parent.Goals as goal

pub returns-then-b-eq0 : goal.returns-then-b-eq0
returns-then-b-eq0 c = let a = c.args in sym (set_of_none a.self.nodes (λ j. child a.b j a.self.at) (λ j l. childless a.b a.self.at j c.if-b-eq0.true))

pub returns-then-self-eq0 : goal.returns-then-self-eq0
returns-then-self-eq0 c =
    let a = c.args in
    sym
    (set_of_none a.self.nodes (λ j. child a.b j a.self.at)
    (λ j l. ap (λ (x : Bool). x && leb a.self.at (j * a.b + a.b)) (lt-leb (j * a.b + 1) a.self.at (omega (arith, c.if-self-eq0.true)))))

pub returns-else-self-eq0 : goal.returns-else-self-eq0
returns-else-self-eq0 c =
    let a = c.args in
    c.only.ensures ∙ set_of_cong a.self.nodes (λ j _. parent_is a.b a.self.at j (nonzero c.if-b-eq0.false) (nonzero c.if-self-eq0.false))

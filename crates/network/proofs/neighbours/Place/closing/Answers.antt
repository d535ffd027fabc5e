-- The last node closes the ring at the first, the first at the last, and none at any other.
use Rattle.std.proofs.Common.{◌+◌, sym, ap, Bool, ◌&&◌, ◌||◌, ltb, arith}
use borrow.Author.Tests.{ne_eqb, le-ltb}
use Rattle.network.specs.Topology.{first_and_last}
use Rattle.network.proofs.Masks.{set_of_none, closes}
use Rattle.network.proofs.neighbours.Place.closing.Goals as goal

pub returns-then-self-le2 : goal.returns-then-self-le2
returns-then-self-le2 c =
    let a = c.args in
    sym (set_of_none a.self.nodes (λ j. ltb 2 a.self.nodes && (first_and_last a.self.nodes a.self.at j || first_and_last a.self.nodes j a.self.at))
    (λ j l. ap (λ (x : Bool). x && (first_and_last a.self.nodes a.self.at j || first_and_last a.self.nodes j a.self.at)) (le-ltb 2 a.self.nodes c.if-self-le2.true)))

pub returns-else-self : goal.returns-else-self
returns-else-self c =
    let a = c.args in
    sym (set_of_none a.self.nodes (λ j. ltb 2 a.self.nodes && (first_and_last a.self.nodes a.self.at j || first_and_last a.self.nodes j a.self.at))
    (λ j l. closes a.self.nodes a.self.at j (omega arith) (ne_eqb a.self.at 0 c.if-self-eq0.false) (ne_eqb (a.self.at + 1) a.self.nodes c.if-self.false)))

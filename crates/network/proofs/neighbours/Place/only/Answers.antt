use Rattle.std.proofs.Common.{sym, ◌∙◌, eqb, arith}
use borrow.Author.Tests.{ne_eqb}
use Rattle.network.proofs.Sets.{one_shl}
use Rattle.network.proofs.Masks.{only_set, set_of_none}
use Rattle.network.proofs.neighbours.Place.only.Goals as goal

pub returns-then-j-self : goal.returns-then-j-self
returns-then-j-self c = one_shl 64 c.args.j (omega arith) ∙ only_set c.args.self.nodes c.args.j c.if-j-self.true

pub returns-else-j-self : goal.returns-else-j-self
returns-else-j-self c = let a = c.args in sym (set_of_none a.self.nodes (eqb a.j) (λ b l. ne_eqb a.j b (λ e. omega (arith, e))))

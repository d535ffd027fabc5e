use Rattle.std.proofs.Common.{◌+◌, sym, eqb, arith}
use borrow.Author.Tests.{ne_eqb}
use Rattle.network.proofs.Masks.{set_of_none}
use Rattle.network.proofs.neighbours.Place.back.Goals as goal

-- below k no node is k back
pub returns-else-k-self : goal.returns-else-k-self
returns-else-k-self c = let a = c.args in sym (set_of_none a.self.nodes (λ j. eqb (j + a.k) a.self.at) (λ j l. ne_eqb (j + a.k) a.self.at (λ e. omega (arith, e))))

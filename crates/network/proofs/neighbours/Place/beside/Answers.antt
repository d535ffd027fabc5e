use Rattle.std.proofs.Common.{◌+◌, eqb}
use Rattle.network.proofs.Masks.{set_of_or}
use Rattle.network.proofs.neighbours.Place.beside.Goals as goal

pub returns : goal.returns
returns c = let a = c.args in set_of_or a.self.nodes (eqb (a.self.at + 1)) (λ j. eqb (j + 1) a.self.at) c.only.ensures c.back.ensures

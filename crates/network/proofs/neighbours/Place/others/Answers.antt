use Rattle.std.proofs.Common.{◌-◌, ap₂, ◌∙◌, arith}
use lib.Pow.{pow-lt}
use Rattle.network.proofs.Sets.{one_shl}
use Rattle.network.proofs.Masks.{others_set}
use Rattle.network.proofs.neighbours.Place.others.Goals as goal

pub overflow_sub-result : goal.overflow_sub-result
overflow_sub-result c = omega (arith, c.full_set.ensures, one_shl 64 c.args.self.at (omega arith), pow-lt c.args.self.inside)

pub returns : goal.returns
returns c = let a = c.args in ap₂ ◌-◌ c.full_set.ensures (one_shl 64 a.self.at (omega arith)) ∙ others_set a.self.nodes a.self.at c.args.self.inside

use Rattle.std.proofs.Common.{arith}
use lib.Pow.{pow-lt}
use Rattle.config.specs.Limits.{set_bits}
use Rattle.network.proofs.Sets.{one_shl}
use Rattle.phy.proofs.ci.begin_round.Goals as goal

pub overflow_sub-awake : goal.overflow_sub-awake
overflow_sub-awake c =
    let first = c.args.initiator.0 in
    rw (one_shl set_bits first (omega arith)) (omega (arith, c.full_set.ensures, pow-lt c.requires.node))

use Rattle.std.proofs.Common.{ℕ, ◌-◌, ap₂, ◌∙◌, bit_and, bit_or, arith}
use Rattle.config.specs.Limits.{set_bits}
use Rattle.network.proofs.Sets.{one_shl}
use Rattle.phy.proofs.RoundEnds.{part_set}
use Rattle.phy.proofs.ci.participants.Goals as goal

pub returns : goal.returns
returns c =
    let a = c.args in
    ap₂ (λ (all bit : ℕ). bit_or (all - bit_and all a.awake) bit) c.full_set-all.ensures (one_shl set_bits a.initiator.0 (omega arith))
    ∙ part_set a.n a.initiator.0 a.awake c.requires.1

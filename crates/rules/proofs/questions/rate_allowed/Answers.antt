use Rattle.std.proofs.Common.{◌≡◌, refl, false}
use lib.IntN.{pos}
use lib.Ieee.{fin, binary64, of_bits}
use Rattle.random.proofs.Fractions.{zero_bits}
use Rattle.rules.specs.Questions.{rate_allowed}
use Rattle.rules.proofs.questions.rate_allowed.Goals as goal

-- the code's 1.0
one_bits : of_bits binary64 0x3ff0_0000_0000_0000 ≡ fin false 1 (pos 0)
unfolding of_bits
one_bits = refl

pub returns : goal.returns
unfolding rate_allowed
returns c = rw (zero_bits, one_bits)

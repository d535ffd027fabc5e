use Rattle.std.proofs.Common.{◌≡◌, get_or, arith}
use Rattle.std.proofs.lemmas.Grind.{common_steps}
use Rattle.text.specs.Numeral.{digit}
use Rattle.text.proofs.Numerals.{digit_is, from_digit}
use Rattle.text.proofs.numeral.numeral.Goals as goal

pub loop-byte-preserved : goal.loop-byte-preserved
loop-byte-preserved c =
    let same : digit (get_or c.args.text.now c.loop-byte.byte-index 0) ≡ c.in_ok-d.d = digit_is _ c.in_ok-d.ensures in
    grind (arith, common_steps, from_digit)

use Rattle.std.proofs.Common.{refl, ◌∙◌}
use Rattle.archive.specs.Bytes.{numbers_bytes}
use Rattle.archive.proofs.ByteLaws.{numbers_more}
use Rattle.archive.proofs.bytes.put_numbers.Goals as goal

pub loop-i-init : goal.loop-i-init
unfolding numbers_bytes
loop-i-init c = refl

pub loop-i-preserved : goal.loop-i-preserved
loop-i-preserved c =
    let a = c.args in
    c.put_bytes.ensures ∙ rw c.loop-i.invariant (numbers_more a.out.now a.at a.numbers.now c.loop-i.i c.loop-i-test.true)

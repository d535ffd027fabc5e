use Rattle.std.proofs.Common.{◌≡◌, ◌%◌, ◌∙◌, sym, subst, mod-eq_of_lt, arith}
use Rattle.random.specs.Word.{rotate_right, RotatedRight}
use Rattle.random.proofs.Rotations.{shifts_rotate_right, rotates_right}
use Rattle.random.proofs.word.rotate_right.Goals as goal

pub returns : goal.returns
returns c =
    let x = c.args.x in
    let k = c.args.k in
    let down : k % 32 ≡ k = mod-eq_of_lt (omega arith) in
    let e : c.rotate_right.result ≡ rotate_right x k = c.rotate_right.ensures ∙ rw down (shifts_rotate_right x k c.ranges.x.fits (omega arith)) in
    (e, subst (RotatedRight x k) (sym e) (rotates_right x k c.ranges.x.fits (omega arith)))

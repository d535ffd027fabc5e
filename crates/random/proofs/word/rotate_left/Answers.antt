use Rattle.std.proofs.Common.{◌≡◌, ◌-◌, ◌%◌, mod-eq_of_lt, arith, ◌∙◌}
use Rattle.random.proofs.Rotations.{shifts_rotate_left}
use Rattle.random.proofs.word.rotate_left.Goals as goal

pub returns : goal.returns
returns c =
    let x = c.args.x in
    let k = c.args.k in
    let up : k % 32 ≡ k = mod-eq_of_lt (omega arith) in
    let down : (32 - k % 32) % 32 ≡ 32 - k = rw up (mod-eq_of_lt (omega arith)) in
    c.rotate_left.ensures ∙ rw (down, up) (shifts_rotate_left x k c.ranges.x.fits (omega arith))

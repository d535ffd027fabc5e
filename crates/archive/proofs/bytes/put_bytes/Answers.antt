use Rattle.std.proofs.Common.{◌≡◌, ◌+◌, ◌-◌, take, drop, ◌∙◌, arith}
use Rattle.archive.specs.Bytes.{bytes_of}
use Rattle.archive.proofs.ByteLaws.{bytes_more, length_bytes, sets_all, sets_part}
use Rattle.archive.proofs.bytes.put_bytes.Goals as goal

pub loop-place-preserved : goal.loop-place-preserved
loop-place-preserved c =
    let l = c.loop-place in
    bytes_more l.place-items c.args.size l.place-index l.rest (omega arith) ∙ l.invariant

pub returns : goal.returns
unfolding bytes_of
returns c =
    let a = c.args in
    let l = c.loop-place in
    let part = take (a.at + a.size - a.at) (drop a.at a.out.now) in
    let none : a.size - l.place-index ≡ 0 = omega arith in
    let left = rw none at l.invariant in
    let written = left ∙ sets_all part (bytes_of a.size a.number) (omega (arith, length_bytes a.size a.number)) in
    rw written (sets_part a.out.now (bytes_of a.size a.number) a.at (a.at + a.size) (omega (arith, length_bytes a.size a.number)) (omega arith))

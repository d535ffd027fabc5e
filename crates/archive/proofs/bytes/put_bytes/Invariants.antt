use Rattle.std.proofs.Common.{◌≡◌, ◌-◌}
use lib.Seq.{sets}
use Rattle.archive.specs.Bytes.{bytes_of}
use Rattle.archive.proofs.bytes.put_bytes.Given as goal

-- with the bytes of what is left behind it, the part is that of the whole number
abbrev pub invariant-loop-place : goal.invariant-loop-place
invariant-loop-place l =
    sets l.place-items l.place-index (bytes_of (l.size - l.place-index) l.rest) ≡ sets l.initial.place-items 0 (bytes_of l.size l.number)

use Rattle.std.proofs.Common.{◌≡◌}
use Rattle.archive.specs.Bytes.{numbers_bytes, same_bytes}
use Rattle.archive.proofs.ByteLaws.{numbers_left}
use Rattle.archive.proofs.bytes.are_numbers.Given as goal

-- the numbers before the i-th are those of the bytes
abbrev pub invariant-loop-i : goal.invariant-loop-i
invariant-loop-i l = same_bytes l.bytes (numbers_bytes l.numbers) ≡ numbers_left l.bytes l.numbers l.i

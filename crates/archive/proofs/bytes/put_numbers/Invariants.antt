use Rattle.std.proofs.Common.{◌≡◌, take}
use Rattle.std.proofs.lemmas.List.Edits.{sets}
use Rattle.archive.specs.Bytes.{numbers_bytes}
use Rattle.archive.proofs.bytes.put_numbers.Given as goal

abbrev pub invariant-loop-i : goal.invariant-loop-i
invariant-loop-i l = l.out ≡ sets l.fn.out l.at (numbers_bytes (take l.i l.numbers))

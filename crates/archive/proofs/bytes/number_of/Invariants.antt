use Rattle.archive.proofs.ByteLaws.{ReadBack}
use Rattle.archive.proofs.bytes.number_of.Given as goal

abbrev pub invariant-loop-byte : goal.invariant-loop-byte
invariant-loop-byte l = ReadBack l.bytes l.byte-iterator.iter.rest.now l.number

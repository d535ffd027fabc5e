use Rattle.wire_reader.proofs.FlagsSeen.{Seen}
use Rattle.wire_reader.proofs.fields.flags_in.Given as goal

abbrev pub invariant-loop-i : goal.invariant-loop-i
invariant-loop-i l = Seen l.text l.i l.set l.rest

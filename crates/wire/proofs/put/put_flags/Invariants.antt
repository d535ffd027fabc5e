use Rattle.text.proofs.Overlays.{Listed}
use Rattle.wire.specs.Grammar.{flag_most}
use Rattle.wire.specs.View.{marked_flag}
use Rattle.wire.proofs.put.put_flags.Given as goal

abbrev pub invariant-loop-i : goal.invariant-loop-i
invariant-loop-i l = Listed (marked_flag l.set) flag_most l.n l.initial.over l.i l.over

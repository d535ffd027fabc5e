use Rattle.sweep.specs.Working.{SweptTo}
use Rattle.sweep.proofs.sweep_over.Given as goal

abbrev pub invariant-loop-i : goal.invariant-loop-i
invariant-loop-i l = SweptTo l.plan l.seeds l.initial.table l.i l.rounds l.states l.history l.table

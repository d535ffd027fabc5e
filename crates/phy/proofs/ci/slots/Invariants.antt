-- After so many slots the code stands where the definitions do, with the slots of the limit that are left.
use Rattle.std.proofs.Common.{◌-◌}
use Rattle.phy.specs.View.{tables}
use Rattle.phy.proofs.Onward.{Onward}
use Rattle.phy.proofs.ci.slots.Given as goal

abbrev pub invariant-loop-done : goal.invariant-loop-done
invariant-loop-done l =
    Onward l.settings l.rows l.longest l.fn.flood (tables l.fn.queue l.fn.stream l.fn.snapshots) l.x (tables l.queue l.stream l.snapshots) (l.longest - l.done) l.place

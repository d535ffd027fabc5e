use Rattle.text.proofs.Overlays.{Listed}
use Rattle.listing.specs.Listing.{line_most, line_of}
use Rattle.listing.proofs.write.put_lines.Given as goal

abbrev pub invariant-loop-i : goal.invariant-loop-i
invariant-loop-i l = Listed (line_of l.lines l.records l.snapshots l.logs) (line_most l.lines) l.fn.n l.initial.over l.i l.over

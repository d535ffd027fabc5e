use Rattle.std.proofs.Common.{◌≡◌, ◌*◌, ◌-◌}
use Rattle.std.proofs.lemmas.List.Edits.{sets}
use Rattle.archive.specs.Layout.{section_count, parts_in}
use Rattle.archive.proofs.Orders.{parts_from}
use Rattle.archive.proofs.layout.put_parts.Given as goal

-- with those of section i and of the sections behind it, all would be written
abbrev pub invariant-loop-i : goal.invariant-loop-i
invariant-loop-i l = sets l.parts (2 * l.i) (parts_from l.file l.i (section_count - l.i)) ≡ sets l.fn.parts 0 (parts_in l.file)

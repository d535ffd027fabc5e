-- A table of at most so many nodes fits in memory, and is lent as it was made.
use Rattle.std.proofs.Common.{refl, arith}
use Rattle.pipeline.proofs.carry.with_table.Goals as goal

pub whole_as_slice-f : goal.whole_as_slice-f
whole_as_slice-f g c = omega arith

pub returns : goal.returns
returns g c = (_, record { shown = _; shows = refl; left = _; called = c.f.ensures; leaves = refl })

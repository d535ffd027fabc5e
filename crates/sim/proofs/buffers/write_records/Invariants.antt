use Rattle.std.proofs.Common.{◌≡◌}
use Rattle.std.proofs.lemmas.List.Edits.{sets}
use Rattle.pipeline.specs.View.{records_of}
use Rattle.rules.specs.Entries.{record_numbers}
use Rattle.sim.proofs.buffers.write_records.Given as goal

-- the first k records are written
abbrev pub invariant-loop-k : goal.invariant-loop-k
invariant-loop-k l = l.out ≡ sets l.initial.out 0 (record_numbers (records_of l.k l.history))

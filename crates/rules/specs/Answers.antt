-- What the code's answers say, in the definitions' values.
use Rattle.std.specs.Prelude.{ℕ, List, Option, Some, None, Result, Ok}
use Rattle.config.specs.declared.refusal.Refusal.{Refusal}
use Rattle.metrics.specs.declared.summary.Summary.{Summary}
use Rattle.rules.specs.declared.answer.SeenRound.{SeenRound}
use Rattle.rules.specs.declared.answer.End.{End}
use Rattle.rules.specs.Run.{Past}
use Rattle.rules.specs.Entries.{Outcome}

-- an answer with the final contents of the buffers of logs, records and snapshots
abbrev pub outcome : Result Summary Refusal → List ℕ → List ℕ → List ℕ → Outcome
outcome a l r s = record { answer = a; logs = l; records = r; snapshots = s }

-- a run that was not refused, with its summary
abbrev pub ran : Summary → List ℕ → List ℕ → List ℕ → Outcome
ran s logs records snapshots = outcome (Ok s) logs records snapshots

-- what is seen of a round: its packet, and who took part
abbrev pub seen_round : Past → SeenRound
seen_round p = record { packet = p.packet; part = p.flooded.part }

-- the number of an end, and 0 where there is none
abbrev pub end_number : Option End → ℕ
end_number None = 0
end_number (Some End.LogsComplete) = 1
end_number (Some End.AllRecorded) = 2
end_number (Some End.RoundLimit) = 3
end_number (Some End.SlotLimit) = 4

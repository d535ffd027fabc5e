-- The numbers of the questions (rules 9.1 to 9.3): what is told of an input that is refused.
use Rattle.std.specs.Prelude.{ℕ, Option, Some, None, Result, Ok, Err}
use Rattle.config.specs.declared.refusal.Refusal.{Refusal}

abbrev pub number_of : Refusal → ℕ
number_of Refusal.UnknownTopology = 1
number_of Refusal.NodeCount = 2
number_of Refusal.SecondNumber = 3
number_of Refusal.WrongRows = 4
number_of Refusal.RepeatCount = 5
number_of Refusal.RoundLength = 6
number_of Refusal.LossRate = 7
number_of Refusal.ProposalCount = 8
number_of Refusal.ZeroInterval = 9
number_of Refusal.ShortBuffers = 10
number_of Refusal.LargeCount = 11
number_of Refusal.UnreadableLine = 12
number_of Refusal.NoSuchRound = 13
number_of Refusal.NoText = 14
number_of Refusal.SweepTable = 15
number_of Refusal.ShortRound = 16
number_of Refusal.BrokenLayout = 17
number_of Refusal.ShortFile = 18
number_of Refusal.FieldsDiffer = 19

-- the value, unless it is refused
abbrev pub unless : {T : Type 0} → Option Refusal → T → Result T Refusal
unless None x = Ok x
unless (Some r) x = Err r

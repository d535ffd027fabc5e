-- A refusal is told by its number. Assumes nothing.
use Rattle.std.proofs.Common.{◌≡◌, refl, sym, ap, ◌∙◌, ℕ, List, [], ◌∷◌, get_or}
use Rattle.config.specs.declared.refusal.Refusal.{Refusal}
use Rattle.config.specs.Refusals.{number_of}

-- every refusal at its number; there is no question 0
abbrev by_number : List Refusal
by_number =
    Refusal.UnknownTopology
    ∷ Refusal.UnknownTopology
    ∷ Refusal.NodeCount
    ∷ Refusal.SecondNumber
    ∷ Refusal.WrongRows
    ∷ Refusal.RepeatCount
    ∷ Refusal.RoundLength
    ∷ Refusal.LossRate
    ∷ Refusal.ProposalCount
    ∷ Refusal.ZeroInterval
    ∷ Refusal.ShortBuffers
    ∷ Refusal.LargeCount
    ∷ Refusal.UnreadableLine
    ∷ Refusal.NoSuchRound
    ∷ Refusal.NoText
    ∷ Refusal.SweepTable
    ∷ Refusal.ShortRound
    ∷ Refusal.BrokenLayout
    ∷ Refusal.ShortFile
    ∷ Refusal.FieldsDiffer
    ∷ []

at_number : (r : Refusal) → get_or by_number (number_of r) Refusal.UnknownTopology ≡ r
at_number Refusal.UnknownTopology = refl
at_number Refusal.NodeCount = refl
at_number Refusal.SecondNumber = refl
at_number Refusal.WrongRows = refl
at_number Refusal.RepeatCount = refl
at_number Refusal.RoundLength = refl
at_number Refusal.LossRate = refl
at_number Refusal.ProposalCount = refl
at_number Refusal.ZeroInterval = refl
at_number Refusal.ShortBuffers = refl
at_number Refusal.LargeCount = refl
at_number Refusal.UnreadableLine = refl
at_number Refusal.NoSuchRound = refl
at_number Refusal.NoText = refl
at_number Refusal.SweepTable = refl
at_number Refusal.ShortRound = refl
at_number Refusal.BrokenLayout = refl
at_number Refusal.ShortFile = refl
at_number Refusal.FieldsDiffer = refl

pub number_tells : (j k : Refusal) → number_of j ≡ number_of k → j ≡ k
number_tells j k e = sym (at_number j) ∙ ap (λ (n : ℕ). get_or by_number n Refusal.UnknownTopology) e ∙ at_number k

-- The validity of a configuration that was filed (rules 9.2, 9.3 and 9.5): its questions, and no run.
use Rattle.std.specs.Prelude.{ℕ, Bool, false, cond, List, [], ◌∷◌, eqb, Result, Ok, Err}
use Rattle.config.specs.declared.Config.{Config}
use Rattle.config.specs.declared.refusal.Refusal.{Refusal}
use Rattle.config.specs.Refusals.{number_of}
use Rattle.rules.specs.Networks.{RowsOrTopology}
use Rattle.rules.specs.Questions.{questions_for}
use Rattle.validity.specs.declared.Validity.{Validity}
use Rattle.validity.specs.declared.Validity.TheVariants.{Current, Outdated}

-- the refusals of all questions that are answered "no", in their order
abbrev pub every_no : List (Bool × Refusal) → List Refusal
every_no [] = []
every_no (q ∷ rest) = cond q.0 (every_no rest) (q.1 ∷ every_no rest)

-- question 16
abbrev pub short_round : ℕ
short_round = number_of Refusal.ShortRound

-- question k alone refuses
abbrev pub alone : ℕ → List Refusal → Bool
alone k [] = false
alone k (j ∷ []) = eqb (number_of j) k
alone k (i ∷ j ∷ rest) = false

-- the first refusal other than 16, or current where there is none
abbrev pub first_other : List Refusal → Result Validity Refusal
first_other [] = Ok Current
first_other (k ∷ rest) = cond (eqb (number_of k) short_round) (first_other rest) (Err k)

-- Outdated exactly where 16 alone refuses, else the first other refusal, or current where there is none.
abbrev pub validity_as : List Refusal → Result Validity Refusal
validity_as refusals = cond (alone short_round refusals) (Ok Outdated) (first_other refusals)

abbrev pub validity_of : List (Bool × Refusal) → Result Validity Refusal
validity_of questions = validity_as (every_no questions)

-- the validity of a configuration for rows or a topology, by questions 1 to 9 and 16
unfoldable pub validity_for : RowsOrTopology → Config → Result Validity Refusal
validity_for q c = validity_of (questions_for q c)

-- the number that tells it: 0 current, 16 outdated, else that of the refusal
abbrev pub validity_number : {R : Type 0} → (R → ℕ) → Result Validity R → ℕ
validity_number number (Ok Current) = 0
validity_number number (Ok Outdated) = short_round
validity_number number (Err k) = number k

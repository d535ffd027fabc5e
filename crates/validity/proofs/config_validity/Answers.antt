use Rattle.std.proofs.Common.{◌≡◌, true, false, not, sym, subst}
use mathlib.Core.Logic.{⊎_elim}
use denote.Enum.Bare.{sameb}
use lib.Dec.{eqb}
use borrow.Author.Tests.{eqb-true}
use Rattle.config.proofs.Unless.{refused}
use Rattle.config.specs.Refusals.{number_of}
use Rattle.config.specs.declared.refusal.Refusal.{Refusal}
use Rattle.config.specs.contracts.refusal.Refusal.{the_type}
use Rattle.network.specs.Questions.{first_no}
use Rattle.network.proofs.Sets.{two}
use Rattle.rules.specs.Questions.{config_questions}
use Rattle.validity.specs.Validity.{short_round}
use Rattle.validity.proofs.Numbers.{number_tells}
use Rattle.validity.proofs.Refusals.{of_other}
use Rattle.validity.proofs.config_validity.Goals as goal

-- a refusal that the code tells from 16 has another number
other_number : (k : Refusal) → true ≡ not (sameb the_type k Refusal.ShortRound) → eqb (number_of k) short_round ≡ false
other_number k e =
    ⊎_elim
    (λ p. let h = subst (λ (r : Refusal). true ≡ not (sameb the_type r Refusal.ShortRound)) (number_tells k Refusal.ShortRound (eqb-true (number_of k) short_round p)) e in absurd (cc))
    (λ p. p)
    (two (eqb (number_of k) short_round))

pub returns-then-ne : goal.returns-then-ne
returns-then-ne c =
    of_other c.args.config _ (refused tt (first_no (config_questions c.args.config)) _ (sym c.in-Err.ensures)) (other_number _ c.if-ne.ensures)

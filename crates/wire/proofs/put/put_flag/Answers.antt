use Rattle.std.proofs.Common.{ℕ, ◌≡◌, sym, ap, ◌∙◌, List, [], ◌∷◌, arith}
use Rattle.text.specs.Text.{ascii}
use Rattle.text.proofs.Overlays.{◌then◌, within}
use Rattle.wire.specs.View.{mark}
use Rattle.wire.proofs.Arrays.{mark_first, mark_other}
use Rattle.wire.proofs.put.put_flag.Goals as goal
use Rattle.wire.proofs.put.put_flag.Goals.{After-has, then-i-eq0, else-i-eq0}

-- the bracket in front of the first flag, a comma in front of the others
marked : (c : After-has) → ◌≡◌ {A = List ℕ} (mark c.args.i) (c.if-i-eq0.mark ∷ [])
unfolding ascii
marked c =
    elim c.if-i-eq0.branch [
      | then-i-eq0 w ↦ mark_first _ w.if-i-eq0.true ∙ ap (λ (b : ℕ). b ∷ []) (sym w.mark-is)
      | else-i-eq0 w ↦ mark_other _ w.if-i-eq0.false ∙ ap (λ (b : ℕ). b ∷ []) (sym w.mark-is)
    ]

pub returns-then-has : goal.returns-then-has
unfolding ascii
returns-then-has c =
    rw (marked (goal.at.returns-then-has c).After-has, sym c.has.ensures ∙ c.if-has.true) (within (c.put.ensures then c.put_word.ensures) (omega arith))

pub returns-else-has : goal.returns-else-has
unfolding ascii
returns-else-has c =
    rw (marked (goal.at.returns-else-has c).After-has, sym c.has.ensures ∙ c.if-has.false) (within (c.put.ensures then c.put_word-else-has.ensures) (omega arith))

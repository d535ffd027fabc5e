use Rattle.std.proofs.Common.{ℕ, ◌-◌, ◌^◌, ap, ◌∙◌}
use lib.Bits.{bit_and, and_mask}
use lib.Dec.{eqb}
use Rattle.rounds.proofs.Full.{has_all}
use Rattle.rounds.proofs.survey.logs_all.Goals as goal

pub returns : goal.returns
returns c =
    let a = c.args in
    ap (λ (k : ℕ). eqb (bit_and a.logged k) k) c.full_set-every.ensures
    ∙ ap (λ (k : ℕ). eqb k (2 ^ a.proposals - 1)) (and_mask a.logged a.proposals)
    ∙ has_all a.proposals a.logged

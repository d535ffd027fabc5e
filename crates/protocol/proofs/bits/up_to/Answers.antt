use Rattle.std.proofs.Common.{ℕ, ◌-◌, ◌^◌, sym, ap, ◌∙◌, add-one, arith}
use Rattle.config.specs.Limits.{max_terms}
use Rattle.protocol.proofs.Words.{reach_all, reach_is}
use Rattle.protocol.proofs.bits.up_to.Goals as goal

pub returns-then-u-ge-MAX_TERMS : goal.returns-then-u-ge-MAX_TERMS
returns-then-u-ge-MAX_TERMS c = c.full_set.ensures ∙ sym (reach_all max_terms c.args.last.0 (omega arith))

pub returns : goal.returns
returns c =
    let u = c.args.last.0 in
    c.full_set-2.ensures ∙ ap (λ (x : ℕ). 2 ^ x - 1) (add-one u) ∙ sym (reach_is u (omega arith))

use Rattle.std.proofs.Common.{◌≡◌, ℕ, Bool, true, false, sym, ap, ◌∙◌, inl, inr, ⊎_elim}
use lib.Ieee.{eq, le}
use Rattle.random.proofs.Fractions.{zero_bits}
use Rattle.random.specs.Reception.{fraction, lossless, heard_at}
use Rattle.random.proofs.reception.receive.Goals as goal

pub returns-then-rate : goal.returns-then-rate
unfolding heard_at
returns-then-rate c =
    let rate = c.args.rate in
    let none_lost : lossless rate ≡ true = ap (eq rate) (sym zero_bits) ∙ c.if-rate.true in
    record {
      told = λ heard x. sym (ap (λ (f : ℕ → Bool). f c.args.k) x.seeded ∙ rw none_lost);
      next = λ heard x. record { seed = x.seed; seeded = x.seeded; ready = inl (rw none_lost tt) };
    }

pub returns : goal.returns
unfolding heard_at
returns c =
    let a = c.args in
    let some_lost : lossless a.rate ≡ false = ap (eq a.rate) (sym zero_bits) ∙ c.if-rate.false in
    let drawn = c.next_draw.ensures in
    record {
      told = λ heard x.
          ⊎_elim (λ t. absurd (rw some_lost at t))
          (λ b. sym (ap (λ (f : ℕ → Bool). f a.k) x.seeded ∙ rw some_lost (ap (le a.rate) (sym (c.fraction.ensures ∙ ap fraction (drawn x.seed b).0)))))
          x.ready;
      next = λ heard x.
          record { seed = x.seed; seeded = x.seeded; ready = ⊎_elim (λ t. absurd (rw some_lost at t)) (λ b. inr (drawn x.seed b).1) x.ready };
    }

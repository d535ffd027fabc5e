use Rattle.std.proofs.Common.{◌≡◌, ◌+◌, Bool, true, false, sym, ap, ◌∙◌, arith}
use Rattle.config.specs.Limits.{set_bits}
use Rattle.phy.specs.Slot.{attempt_by, attempt, attempt_all}
use Rattle.phy.specs.View.{tries_of}
use Rattle.phy.proofs.Masks.{or_shifted_bit}
use Rattle.phy.proofs.slot.attempt.Goals as goal

pub returns-then-receive : goal.returns-then-receive
unfolding attempt attempt_all
returns-then-receive c =
    let t = c.args.t in
    let j = c.args.j.0 in
    record {
      attempts = omega arith;
      successes = omega arith;
      tried = λ heard s.
          let hears : heard t.attempts ≡ true = sym (c.receive.ensures.told heard s) ∙ c.if-receive.true in
          (λ i. record { attempts = t.attempts + 1; successes = t.successes + 1; reached = or_shifted_bit set_bits {s = t.reached} {j = j} (omega arith) (omega arith) i })
          ∙ ap (λ (b : Bool). attempt_by b (tries_of t) j) (sym hears);
      source = c.receive.ensures.next;
    }

pub returns : goal.returns
unfolding attempt attempt_all
returns c =
    let t = c.args.t in
    record {
      attempts = omega arith;
      successes = omega arith;
      tried = λ heard s.
          let lost : heard t.attempts ≡ false = sym (c.receive.ensures.told heard s) ∙ c.if-receive.false in
          ap (λ (b : Bool). attempt_by b (tries_of t) c.args.j.0) (sym lost);
      source = c.receive.ensures.next;
    }

use Rattle.std.proofs.Common.{◌≡◌, ◌-◌, ℕ, ap, subst, sym, ◌∙◌, arith}
use Rattle.phy.specs.Round.{slots}
use Rattle.phy.specs.View.{as_setup, Stands}
use Rattle.phy.proofs.Onward.{onward, ends}
use Rattle.phy.proofs.ci.slots.Goals as goal

pub returns-then-x-eq0 : goal.returns-then-x-eq0
returns-then-x-eq0 c = ends c.loop-done.invariant (omega (arith, c.loop-done-test.true)) c.slot-x.ensures c.if-x-eq0.true

pub loop-done-preserved : goal.loop-done-preserved
loop-done-preserved c =
    onward c.loop-done.invariant (omega (arith, c.loop-done-test.true)) c.slot-x.ensures c.if-x-eq0.false c.slot-x.auto.snapshots (omega arith) c.next_place-place.ensures

pub returns : goal.returns
unfolding slots
returns c =
    let l = c.loop-done in
    let a = c.args in
    let none : a.longest - l.done ≡ 0 = omega (arith, c.loop-done-test.false) in
    record {
      sound = l.invariant.sound;
      slots = omega (arith, l.invariant.slots_left);
      first = l.invariant.first;
      room = l.invariant.met.here.queued.room;
      source = l.invariant.source;
      stands = λ heard source b₀ s₀ here₀.
          let old = l.invariant.here heard source b₀ s₀ here₀ in
          subst (Stands a.settings.nodes l.x b₀ l.snapshots) (ap (λ (k : ℕ). slots (as_setup a.settings a.rows.now heard) k old.0) (sym none) ∙ old.2) old.1.stands;
    }

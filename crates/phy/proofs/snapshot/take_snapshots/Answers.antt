use Rattle.std.proofs.Common.{ℕ, suc, ◌≡◌, ◌+◌, ◌-◌, refl, sym, ap, subst, ◌∙◌, arith}
use Rattle.phy.specs.Slot.{take_one, take_while}
use Rattle.phy.specs.View.{shot_of, Scheduled}
use Rattle.phy.proofs.Snapshots.{none_due, one_due, scheduled_one, one_more}
use Rattle.phy.proofs.snapshot.take_snapshots.Goals as goal

pub loop-next-init : goal.loop-next-init
loop-next-init c = (c.requires.2, omega arith, λ b₀ x₀ r. (suc c.args.slot.0, x₀, omega arith, r, refl))

pub loop-next-preserved : goal.loop-next-preserved
unfolding take_one
loop-next-preserved c =
    let l = c.loop-next in
    let a = c.args in
    let shot = shot_of a.shown in (
      ap (λ (k : ℕ). k + a.interval) l.invariant.0 ∙ one_more l.count a.interval,
      omega (arith, l.invariant.1),
      λ b₀ x₀ r₀.
          let so_far = l.invariant.2 b₀ x₀ r₀ in
          let most = so_far.0 in
          let x = so_far.1 in
          let left : most ≡ suc (most - 1) = omega (arith, so_far.2, c.loop-next-test.true) in (
            most - 1,
            take_one a.interval shot x,
            omega (arith, so_far.2, c.requires.0),
            scheduled_one a.interval shot refl (omega (arith, l.invariant.1, c.requires.3)) so_far.3 c.take_snapshot.ensures,
            sym (one_due a.interval shot a.slot.0 (most - 1) x (omega (arith, so_far.3.due, c.loop-next-test.true)))
                ∙ ap (λ (k : ℕ). take_while a.interval shot a.slot.0 k x) (sym left)
                ∙ so_far.4,
          ),
    )

pub returns : goal.returns
returns c =
    let l = c.loop-next in
    let a = c.args in
    record {
      multiple = l.invariant.0;
      more = l.invariant.1;
      scheduled = λ b₀ x₀ r₀.
          let all = l.invariant.2 b₀ x₀ r₀ in
          subst (Scheduled a.first l.next l.count b₀ l.snapshots)
          (sym (none_due a.interval (shot_of a.shown) a.slot.0 all.0 all.1 (omega (arith, all.3.due, c.loop-next-test.false))) ∙ all.4) all.3;
    }

use Prim.Native.Nat.{◌+◌}
use mathlib.Core.Path.{◌≡◌}
use native.Mathlib.Omega.{arith}
use Rattle.network.specs.Graph.{has}
use Rattle.network.proofs.Lowest.{walked_take, walk_begins, walk_ends}
use Rattle.phy.specs.Slot.{among}
use Rattle.pipeline.proofs.Recordings.{records_none, records_skip, records_more, records_all_known}
use Rattle.pipeline.proofs.records.History.record_all.Goals as goal

pub returns-then-newly-x : goal.returns-then-newly-x
returns-then-newly-x c = records_all_known c.args.end.0 c.args.newly c.requires c.if-newly-x.true

pub loop-t-init : goal.loop-t-init
unfolding among
loop-t-init c =
    let newly = c.args.newly in
    let all : c.into_iter-t-iterator.result.left ≡ newly = cc in
    (tt, tt, (0, omega arith, walk_begins all, records_none c.requires))

pub record_one-r-requires : goal.record_one-r-requires
record_one-r-requires c =
    let i = c.loop-t.invariant.2 in
    (i.3.recording, (walked_take i.2 c.in-Some.ensures.steps).within)

pub loop-t-preserved : goal.loop-t-preserved
loop-t-preserved c =
    let i = c.loop-t.invariant.2 in
    let newly = c.args.newly in
    let n = walked_take i.2 c.in-Some.ensures.steps in (
      tt,
      tt,
      (
        c.in-Some.t + 1,
        omega (arith, n.within),
        n.onward,
        records_more (has newly) n.is (records_skip (has newly) n.from n.none i.3) c.record_one-r.ensures,
      ),
    )

pub returns : goal.returns
returns c =
    let i = c.loop-t.invariant.2 in
    let newly = c.args.newly in
    records_skip (has newly) i.1 (λ k g _. walk_ends i.2 c.in-None.ensures.steps k g) i.3

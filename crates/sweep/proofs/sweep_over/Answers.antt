use Rattle.std.proofs.Common.{arith}
use Rattle.rounds.proofs.Beginning.{zeros_blank}
use Rattle.sweep.proofs.Lines.{swept_none, swept_more, swept_all}
use Rattle.sweep.proofs.sweep_over.Goals as goal

pub loop-i-init : goal.loop-i-init
loop-i-init c = swept_none (zeros_blank c.args.plan.now.network.graph.nodes c.requires.1)

pub overflow_add-rounds : goal.overflow_add-rounds
overflow_add-rounds c = omega (arith, c.loop-i.invariant.few, c.run_seed-summary.ensures.few, c.requires.0.few)

pub loop-i-preserved : goal.loop-i-preserved
loop-i-preserved c =
    let ran = c.run_seed-summary.ensures in
    swept_more c.loop-i.invariant (omega arith) ran.summary ran.few ran.blank c.put_swept_line.ensures

pub returns : goal.returns
returns c = swept_all c.loop-i.invariant c.loop-i-test.false

use Rattle.std.proofs.Common.{arith}
use Rattle.config.specs.Limits.{max_nodes}
use Rattle.text.specs.Text.{ascii}
use Rattle.text.proofs.Overlays.{each_none, each_more, each_all, ◌then◌}
use Rattle.wire.proofs.Arrays.{flags_each}
use Rattle.wire.proofs.put.put_flags.Goals as goal

pub loop-i-init : goal.loop-i-init
loop-i-init c = each_none

pub loop-i-preserved : goal.loop-i-preserved
loop-i-preserved c = each_more c.loop-i.invariant (omega arith) c.put_flag.ensures

pub returns : goal.returns
unfolding ascii
returns c =
    rw (flags_each c.args.set c.args.n c.requires.0)
    (each_all c.loop-i.invariant {most = max_nodes} (omega arith) c.requires.1 then c.put.ensures)

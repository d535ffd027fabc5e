use Rattle.std.proofs.Common.{rules}
use Rattle.phy.specs.Node.{tick}
use Rattle.phy.proofs.node.tick.Goals as goal

pub returns-in-Listen : goal.returns-in-Listen
unfolding tick
returns-in-Listen c = search rules

pub returns-in-Flood : goal.returns-in-Flood
unfolding tick
returns-in-Flood c = search rules

pub returns-in-Sleep : goal.returns-in-Sleep
unfolding tick
returns-in-Sleep c = search rules

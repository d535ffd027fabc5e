use Rattle.archive.proofs.Orders.{long}
use Rattle.archive.proofs.layout.Filed.length_of.Goals as goal

pub length_in-requires : goal.length_in-requires
length_in-requires c = long c.args.self.bytes.now c.args.self.kept

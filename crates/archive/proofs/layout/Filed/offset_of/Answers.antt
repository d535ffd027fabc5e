use Rattle.archive.proofs.Orders.{long}
use Rattle.archive.proofs.layout.Filed.offset_of.Goals as goal

pub offset_in-requires : goal.offset_in-requires
offset_in-requires c = long c.args.self.bytes.now c.args.self.kept

use Rattle.std.proofs.Common.{length, ap, arith}
use Rattle.archive.proofs.Orders.{inputs_long}
use Rattle.archive_supersede.proofs.limit_in.Goals as goal

pub nth_number-requires : goal.nth_number-requires
nth_number-requires c = let file = c.args.file in omega (arith, ap length c.part.ensures, inputs_long file.bytes.now file.kept)

use Rattle.std.proofs.Common.{arith}
use Rattle.archive.proofs.Orders.{section_inside}
use Rattle.archive.proofs.layout.Filed.part.Goals as goal

pub overflow_add-end : goal.overflow_add-end
overflow_add-end c =
    let self = c.args.self in
    omega (arith, c.well_formed, c.offset_of-start.ensures, c.length_of.ensures, section_inside self.bytes.now self.kept c.args.section)

pub slice_bounds-result-end : goal.slice_bounds-result-end
slice_bounds-result-end c =
    let self = c.args.self in
    omega (arith, c.offset_of-start.ensures, c.length_of.ensures, section_inside self.bytes.now self.kept c.args.section)

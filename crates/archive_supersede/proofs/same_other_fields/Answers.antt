use Rattle.std.proofs.Common.{◌*◌, ◌≡◌, ℕ, List, length, take, ap, arith}
use lib.ListN.{length-take}
use Rattle.archive.specs.declared.layout.Filed.{Filed}
use Rattle.archive.specs.Bytes.{number_size}
use Rattle.archive.specs.Layout.{section_in}
use Rattle.archive.proofs.Orders.{inputs_long}
use Rattle.archive_supersede.specs.Supersede.{limit_field}
use Rattle.archive_supersede.proofs.same_other_fields.Goals as goal

-- the nine fields of a file
nine_long : (f : Filed) (section : List ℕ) → section ≡ section_in f.bytes.now 0 → number_size * limit_field ≡ length (take (number_size * limit_field) section)
nine_long f section e = omega (arith, ap length e, inputs_long f.bytes.now f.kept, length-take (number_size * limit_field) section)

pub slice_bounds-eq-end : goal.slice_bounds-eq-end
slice_bounds-eq-end c = nine_long c.args.first _ c.part-first.ensures

pub slice_bounds-eq-end-2 : goal.slice_bounds-eq-end-2
slice_bounds-eq-end-2 c = nine_long c.args.second _ c.part-second.ensures

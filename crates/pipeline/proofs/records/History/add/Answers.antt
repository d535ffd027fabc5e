use Prim.Native.Nat.{◌^◌, ◌<◌}
use mathlib.Core.Path.{refl}
use native.Mathlib.Omega.{arith}
use Rattle.pipeline.proofs.Recordings.{room_left, records_one}
use Rattle.pipeline.proofs.records.History.add.Goals as goal

-- there is room for one record more
pub offset_bounds-self-x : goal.offset_bounds-self-x
offset_bounds-self-x c = omega (arith, room_left c.args.x c.args.self.now c.args.term.0 c.requires.0 c.requires.1 c.requires.2)

pub bounds-self-x : goal.bounds-self-x
bounds-self-x c = omega (arith, room_left c.args.x c.args.self.now c.args.term.0 c.requires.0 c.requires.1 c.requires.2)

pub overflow_add-result : goal.overflow_add-result
overflow_add-result c = omega (arith, room_left c.args.x c.args.self.now c.args.term.0 c.requires.0 c.requires.1 c.requires.2)

pub returns : goal.returns
returns c =
    let x = c.args.x in
    let word : x.terms < 2 ^ 64 = omega arith in
    records_one x c.args.self.now _ c.requires.0 c.requires.1 word c.requires.2 (omega arith) refl

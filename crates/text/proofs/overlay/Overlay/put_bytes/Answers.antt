use Rattle.std.proofs.Common.{refl, arith}
use Rattle.text.proofs.Overlays.{take_more, lays_byte, ◌then◌}
use Rattle.text.proofs.overlay.Overlay.put_bytes.Goals as goal

pub loop-byte-preserved : goal.loop-byte-preserved
loop-byte-preserved c =
    rw (take_more c.args.word.now c.loop-byte.byte-index (omega arith)) (c.loop-byte.invariant then lays_byte c.store.ensures refl refl)

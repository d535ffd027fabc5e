use Rattle.std.proofs.Math.ListN.{take}
use Rattle.text.specs.Overlay.{Lays}
use Rattle.text.proofs.overlay.Overlay.put_bytes.Given as goal

abbrev pub invariant-loop-byte : goal.invariant-loop-byte
invariant-loop-byte l = Lays l.byte-index (take l.byte-index l.word) l.initial.self (record l.self { at = l.at })

use Rattle.std.proofs.Common.{sym, arith}
use Rattle.text.proofs.Digits.{spells_room, spells_more, spells_all}
use Rattle.text.proofs.Overlays.{bounded}
use Rattle.text.proofs.Spelling.{spelled_low, spelled_short}
use Rattle.text.proofs.overlay.Overlay.put_number.Goals as goal

pub overflow_sub-first-in-loop-rest : goal.overflow_sub-first-in-loop-rest
overflow_sub-first-in-loop-rest c = spells_room c.loop-rest.invariant (omega arith) (omega arith)

pub loop-rest-preserved : goal.loop-rest-preserved
loop-rest-preserved c = spells_more c.loop-rest.invariant (omega arith) (omega arith)

-- a number below 10 is its own digit
pub returns-then-n-lt10 : goal.returns-then-n-lt10
returns-then-n-lt10 c = bounded (rw (sym (spelled_low c.args.n (omega arith))) at c.put.ensures) (spelled_short 20 c.args.n (omega arith) (omega arith))

pub returns : goal.returns
returns c = bounded (rw (spells_all c.loop-rest.invariant (omega arith)) at c.put_word.ensures) (spelled_short 20 c.args.n (omega arith) (omega arith))

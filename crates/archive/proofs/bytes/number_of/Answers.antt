use Rattle.std.proofs.Common.{◌+◌, ◌*◌, ◌^◌, ◌<◌, arith}
use Rattle.archive.specs.Bytes.{byte_values}
use Rattle.archive.proofs.ByteLaws.{ReadBack, read_none, read_more, read_lt}
use Rattle.archive.proofs.bytes.number_of.Goals as goal

-- one byte more is read, and what is read has room
more : (c : goal.After-from) → ReadBack c.args.bytes.now c.next.new.self.iter.rest.now (c.from.result + byte_values * c.loop-byte.number)
more c = rw c.from.ensures (read_more c.in-Some.field-0.now c.in-Some.ensures.steps c.loop-byte.invariant)

room : (c : goal.After-from) → c.from.result + byte_values * c.loop-byte.number < byte_values ^ 8
room c = read_lt 8 (λ k. omega (arith, c.type_inv.bytes k)) c.requires (more c)

pub loop-byte-init : goal.loop-byte-init
loop-byte-init c = rw (c.into_iter-byte-iterator.ensures.into_iter_gives, c.rev-byte-items.ensures.source, c.iter.ensures.rest) (read_none _)

pub overflow_mul-number : goal.overflow_mul-number
overflow_mul-number c = omega (arith, room c)

pub overflow_add-number : goal.overflow_add-number
overflow_add-number c = omega (arith, room c)

pub loop-byte-preserved : goal.loop-byte-preserved
loop-byte-preserved c = more c

use Rattle.std.proofs.Common.{sym}
use Rattle.wire_reader.specs.Reader.{◌>>=◌, give, packet}
use Rattle.wire_reader.proofs.packet.Goals as goal

pub returns-in_err-header : goal.returns-in_err-header
unfolding packet ◌>>=◌
returns-in_err-header c = simp (c.from_residual.ensures, sym c.in_err-header.ensures.reads)

pub returns-in_err-body : goal.returns-in_err-body
unfolding packet ◌>>=◌
returns-in_err-body c = simp (c.from_residual-in_err-body.ensures, sym c.in_ok-header.ensures.reads, sym c.in_err-body.ensures)

pub returns : goal.returns
unfolding packet ◌>>=◌ give
returns c = simp (c.packet_of.ensures, sym c.in_ok-header.ensures.reads, sym c.in_ok-body.ensures)

-- `protocol::paxos::PaxosState::hold` meets its contract, as `proofs/Steps.antt` has it.
-- Assumes nothing.
use mathlib.Core.Path.{ap}
use native.Mathlib.Omega.{arith}
use lib.Bits.{bit_or}
use Rattle.protocol.proofs.Sets.{bit_word}
use Rattle.protocol.proofs.Steps.{hold_next}
use Rattle.protocol.proofs.state.PaxosState.hold.Goals as goal

pub returns : goal.returns
returns c =
    let a = c.args in
    let pre = c.requires in
    hold_next a.self.now a.term.0 a.votes _ a.d pre.kept pre.term pre.«data» pre.free
    (ap (bit_or a.self.now.pending) (bit_word a.term.0 pre.term)) (omega arith) (omega arith)

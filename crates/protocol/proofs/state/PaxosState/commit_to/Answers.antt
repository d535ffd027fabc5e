-- `protocol::paxos::PaxosState::commit_to` meets its contract, by cases.
-- Assumes nothing.
use mathlib.Core.Path.{refl}
use Rattle.protocol.specs.Paxos.{commit_to, newly_to, term_set}
use Rattle.protocol.proofs.Steps.{next_same}
use Rattle.protocol.proofs.state.PaxosState.commit_to.Goals as goal

pub returns-in-None : goal.returns-in-None
unfolding commit_to newly_to term_set
returns-in-None c = rw c.in-None.is (record { next = next_same refl; newly = refl })

pub returns-in-Some : goal.returns-in-Some
unfolding commit_to newly_to
returns-in-Some c = rw c.in-Some.is c.commit_up_to.ensures

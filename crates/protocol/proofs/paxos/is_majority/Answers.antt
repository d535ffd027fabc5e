-- `protocol::paxos::is_majority` meets its contract: on words the size of a set is the count of its bits.
-- Assumes nothing.
use Rattle.protocol.proofs.Sets.{size_ones}
use Rattle.protocol.proofs.paxos.is_majority.Goals as goal

pub returns : goal.returns
returns c = rw (size_ones c.args.votes c.ranges.votes.fits)

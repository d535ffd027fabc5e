-- The part has as many votes as the terms from the lowest to the highest; once it is put back, the terms passed have the votes.
use Prim.Native.Nat.{◌+◌, ◌-◌}
use mathlib.Core.Path.{◌≡◌}
use borrow.Rule.Slice.PartMut.{put_mid}
use lib.ListN.{length}
use Rattle.protocol.proofs.Merges.{Merged}
use Rattle.protocol.proofs.state.PaxosState.merge_votes_up_to.Given as goal

abbrev pub invariant-loop-votes : goal.invariant-loop-votes
invariant-loop-votes l =
    record {
      size : length l.votes-items ≡ l.end - l.first;
      merged : Merged l.fn.self.votes l.bitmap l.first (l.first + l.votes-index) (put_mid l.first (l.end - l.first) l.fn.self.votes l.votes-items);
    }

use Rattle.std.proofs.Common.{ap, arith, length}
use Rattle.archive_check.proofs.rounds_again.replay.Goals as goal

pub play_again-requires : goal.play_again-requires
play_again-requires c =
    let pre = c.requires in
    let new = c.new-work.ensures in
    let size = ap length new.empty.0 in
    record {
      go = record { begins = rw (new.states.1, new.history.1) pre.start; stream = new.empty.1; room = omega (arith, size, pre.start.accepted.repeats_high) };
      shots_room = rw new.snapshots.1 pre.shots_room;
    }

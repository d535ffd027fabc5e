use Rattle.std.proofs.Common.{arith}
use Rattle.rounds.proofs.Underway.{kept_all, moves_on}
use Rattle.rounds.proofs.run.Workspace.next_round.Goals as goal

pub surveyed-seen-requires : goal.surveyed-seen-requires
surveyed-seen-requires c =
    let ok = c.requires.accepted in
    record { kept = kept_all c.run_round-played.ensures.plays.steady; some = omega (arith, ok.two); few = ok.few; most = ok.proposals }

pub returns-clause-moves : goal.returns-clause-moves
returns-clause-moves c = moves_on c.run_round-played.ensures.plays c.surveyed-seen.ensures c.end_after-ended.ensures

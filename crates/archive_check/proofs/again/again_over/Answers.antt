use Rattle.std.proofs.Common.{sym, ◌∙◌, arith}
use Rattle.pipeline.proofs.Recordings.{records_few}
use Rattle.rounds.proofs.Beginning.{zeros_blank}
use Rattle.rounds.proofs.Underway.{kept_all}
use Rattle.archive_check.proofs.Ended.{differing, alike}
use Rattle.archive_check.proofs.again.again_over.Goals as goal

pub replay-replayed-requires : goal.replay-replayed-requires
replay-replayed-requires c =
    let ok = c.requires.0 in
    record {
      start = record { accepted = ok; few = omega (arith, ok.proposals); blank = zeros_blank c.args.plan.now.network.graph.nodes c.requires.1 };
      shots_room = c.requires.2;
    }

pub same_rest-requires : goal.same_rest-requires
same_rest-requires c =
    let r = c.in-Some.ensures.replays in
    (kept_all r.steady, c.requires.0.few, omega (arith, r.few, c.requires.0.proposals), records_few r.steady.sharing.recording)

pub returns-in-None : goal.returns-in-None
returns-in-None c = let file = c.args.file in sym (differing c.args.plan.now file.bytes.now c.requires.0 file.kept c.in-None.ensures.replays)

pub returns-in-Some : goal.returns-in-Some
returns-in-Some c =
    let file = c.args.file in
    c.same_rest.ensures ∙ alike c.args.plan.now file.bytes.now c.requires.0 file.kept c.in-Some.ensures.replays

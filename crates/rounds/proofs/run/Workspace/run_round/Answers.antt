use Rattle.std.proofs.Common.{refl}
use Rattle.rounds.proofs.Rounds.{round_plays}
use Rattle.rounds.proofs.run.Workspace.run_round.Goals as goal

pub returns-clause-plays : goal.returns-clause-plays
returns-clause-plays c =
    let pre = c.requires in
    round_plays pre.accepted pre.early pre.going c.prepare_round.ensures refl refl c.flood-part.ensures c.process_round-carry.ensures refl

use Rattle.std.proofs.Common.{◌∙◌, arith}
use Rattle.rounds.specs.Going.{planned}
use Rattle.rounds.proofs.Beginning.{zeros_blank}
use Rattle.preview.proofs.Seen.{from_last}
use Rattle.preview.proofs.preview_over.Goals as goal

pub play-stopped-requires : goal.play-stopped-requires
play-stopped-requires c =
    let ok = c.requires.0 in
    record { accepted = ok; few = omega (arith, c.requires.1, ok.proposals); blank = zeros_blank c.args.plan.now.network.graph.nodes c.requires.2 }

pub returns : goal.returns
returns c =
    c.ok_or.ensures.value
    ∙ from_last (planned c.args.plan.now) c.args.k c.requires.1 _ c.play-stopped.ensures.goes.last

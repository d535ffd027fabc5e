use Rattle.std.proofs.Common.{arith}
use Rattle.pipeline.proofs.Recordings.{records_few}
use Rattle.rounds.proofs.Beginning.{zeros_blank}
use Rattle.rounds.proofs.Underway.{kept_all, states_are}
use Rattle.sim.proofs.Filled.{finishes}
use Rattle.sim.proofs.outcome.run_over.Goals as goal

pub play-stopped-requires : goal.play-stopped-requires
play-stopped-requires c =
    let ok = c.requires.0.accepted in
    record { accepted = ok; few = omega (arith, ok.proposals); blank = zeros_blank c.args.plan.now.network.graph.nodes c.requires.1 }

pub write_logs-requires : goal.write_logs-requires
write_logs-requires c =
    let pre = c.requires.0 in
    (kept_all c.play-stopped.ensures.goes.steady, pre.accepted.few, pre.logs_long)

pub write_records-requires : goal.write_records-requires
write_records-requires c =
    let few = records_few c.play-stopped.ensures.goes.steady.sharing.recording in
    (few, omega (arith, few, c.requires.0.records_long))

pub summary_of-requires : goal.summary_of-requires
summary_of-requires c =
    let ok = c.requires.0.accepted in
    (ok.few, omega (arith, c.play-stopped.ensures.goes.few, ok.proposals))

pub returns : goal.returns
returns c =
    let stops = rw c.most_rounds-most.ensures at c.play-stopped.ensures in
    let goes = stops.goes in
    record {
      buffers = finishes stops c.args.logs.now c.args.records.now c.summary_of.ensures c.write_logs.ensures c.write_records.ensures;
      kept = kept_all goes.steady;
      states = states_are goes.shows;
    }

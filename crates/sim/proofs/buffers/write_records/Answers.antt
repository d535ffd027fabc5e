use Rattle.std.proofs.Common.{ℕ, ◌*◌, ◌<◌, List, refl, ap, ◌∙◌, arith}
use Rattle.std.proofs.lemmas.List.{length-take, get_or-take}
use lib.Seq.{sets}
use Rattle.config.specs.Limits.{record_size}
use Rattle.random.specs.Table.{tabulate}
use Rattle.pipeline.specs.declared.records.ProposalRecord.{ProposalRecord}
use Rattle.pipeline.specs.Round.{record_triple}
use Rattle.pipeline.specs.View.{no_record, record_of, record_at, records_of}
use Rattle.rules.specs.Entries.{record_numbers}
use Rattle.sim.proofs.Copies.{numbers_more}
use Rattle.sim.proofs.buffers.write_records.Goals as goal

pub loop-k-init : goal.loop-k-init
unfolding records_of record_numbers tabulate
loop-k-init c = refl

pub loop-k-preserved : goal.loop-k-preserved
loop-k-preserved c =
    let l = c.loop-k in
    let records = c.args.history.now.records in
    let here : l.k < c.args.count = omega (arith, c.loop-k-test.true, length-take c.args.count records) in
    c.put_record.ensures
    ∙ ap (λ (r : ProposalRecord). sets l.out (record_size * l.k) (record_triple (record_of r))) (get_or-take c.args.count records l.k no_record here)
    ∙ ap (λ (x : List ℕ). sets x (record_size * l.k) (record_triple (record_at c.args.history.now l.k))) l.invariant
    ∙ numbers_more c.args.history.now c.args.out.now l.k

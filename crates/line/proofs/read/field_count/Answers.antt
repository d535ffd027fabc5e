use Rattle.std.proofs.Common.{rules, tests, ◌∙◌, ap, eqb, length}
use Rattle.std.proofs.lemmas.Iterator.Consumers.{count_from_yields_List}
use Rattle.std.proofs.lemmas.Iterator.Splits.{YieldsList-from_slice_split}
use Rattle.line.proofs.Fields.{fields_split}
use Rattle.line.proofs.read.field_count.Goals as goal

pub returns : goal.returns
returns c =
    let line = c.args.line.now in
    count_from_yields_List c.split.result _ c.count.ensures.ran
    (YieldsList-from_slice_split _ (λ b. eqb b 32) line c.split.ensures.rest c.split.ensures.done c.split.ensures.closure (λ x b q k. search (rules, tests)))
    ∙ ap length (fields_split line)

use Rattle.std.proofs.Common.{Result, Ok, sym, ap, subst, ◌∙◌}
use Rattle.config.specs.declared.refusal.Refusal.{Refusal}
use Rattle.archive_supersede.specs.declared.Superseding.{Superseding}
use Rattle.archive_supersede.specs.Supersede.{part_as, superseding_part}
use Rattle.archive_supersede.proofs.Pairs.{Inside, place_inside}
use Rattle.archive_supersede.proofs.supersede.Goals as goal

pub part_at-requires : goal.part_at-requires
part_at-requires c =
    subst (Inside c.args.first.now c.args.second.now) (sym c.in-Ok-First.ensures ∙ ap Ok c.in-Ok-First.field-0-is)
    (place_inside c.args.first.now c.args.second.now)

pub part_at-requires-in-Ok-Second : goal.part_at-requires-in-Ok-Second
part_at-requires-in-Ok-Second c =
    subst (Inside c.args.first.now c.args.second.now) (sym c.in-Ok-Second.ensures ∙ ap Ok c.in-Ok-Second.field-0-is)
    (place_inside c.args.first.now c.args.second.now)

pub returns-in-Ok-First : goal.returns-in-Ok-First
unfolding superseding_part
returns-in-Ok-First c =
    c.part_at.ensures
    ∙ ap (λ (w : Result Superseding Refusal). part_as w c.args.first c.args.second) (sym (ap Ok c.in-Ok-First.field-0-is) ∙ c.in-Ok-First.ensures)

pub returns-in-Ok-Second : goal.returns-in-Ok-Second
unfolding superseding_part
returns-in-Ok-Second c =
    c.part_at-in-Ok-Second.ensures
    ∙ ap (λ (w : Result Superseding Refusal). part_as w c.args.first c.args.second) (sym (ap Ok c.in-Ok-Second.field-0-is) ∙ c.in-Ok-Second.ensures)

pub returns-in-Err : goal.returns-in-Err
unfolding superseding_part
returns-in-Err c = ap (λ (w : Result Superseding Refusal). part_as w c.args.first c.args.second) c.in-Err.ensures

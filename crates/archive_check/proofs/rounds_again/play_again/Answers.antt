use Rattle.std.proofs.Common.{refl, sym, ◌∙◌}
use Rattle.rounds.proofs.Underway.{end_came, no_end_came, still_same}
use Rattle.archive_check.proofs.Replaying.{comparing_new, limit_reached, can_compare, differs, end_reached, compares_on}
use Rattle.archive_check.proofs.rounds_again.play_again.Goals as goal

pub loop-k-init : goal.loop-k-init
loop-k-init c = (comparing_new c.args.file.kept c.requires c.new_run-x.ensures, record { states = refl; history = refl; snapshots = refl })

pub returns-then-limit-x-clause-replays : goal.returns-then-limit-x-clause-replays
returns-then-limit-x-clause-replays c = limit_reached c.args.file.kept c.requires c.loop-k.invariant.0 c.loop-k-test.true c.if-limit-x.true

pub same_taken-requires : goal.same_taken-requires
same_taken-requires c =
    can_compare c.args.file.kept c.requires c.loop-k.invariant.0 c.loop-k-test.true c.if-limit-x.false c.next_round-next.ensures.moves

pub returns-then-not-same_taken-clause-replays : goal.returns-then-not-same_taken-clause-replays
returns-then-not-same_taken-clause-replays c =
    differs c.args.file.kept c.requires c.loop-k.invariant.0 c.loop-k-test.true c.if-limit-x.false c.next_round-next.ensures.moves
    c.same_taken.ensures c.if-not-same_taken.true

pub returns-then-is_some-clause-replays : goal.returns-then-is_some-clause-replays
returns-then-is_some-clause-replays c =
    end_reached c.args.file.kept c.requires c.loop-k.invariant.0 c.loop-k-test.true c.if-limit-x.false c.next_round-next.ensures.moves
    c.same_taken.ensures c.if-not-same_taken.false (end_came _ (sym c.is_some.ensures ∙ c.if-is_some.true))

pub loop-k-preserved : goal.loop-k-preserved
loop-k-preserved c =
    let i = c.loop-k.invariant in
    let next = c.next_round-next.ensures in (
      compares_on c.args.file.kept c.requires i.0 c.loop-k-test.true c.if-limit-x.false next.moves
          c.same_taken.ensures c.if-not-same_taken.false (no_end_came _ (sym c.is_some.ensures ∙ c.if-is_some.false)),
      still_same i.1 next.tables,
    )

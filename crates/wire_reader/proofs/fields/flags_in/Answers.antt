use Rattle.std.proofs.Common.{arith}
use Rattle.text.specs.Text.{ascii}
use Rattle.wire_reader.proofs.FlagsSeen.{flag_ends, flag_follows, flag_missing, flags_end, flags_full, none_seen, set_below}
use Rattle.wire_reader.proofs.fields.flags_in.Goals as goal

pub loop-i-init : goal.loop-i-init
loop-i-init c = none_seen _

pub returns-in_err-f : goal.returns-in_err-f
returns-in_err-f c = rw c.from_residual.ensures (flag_missing c.loop-i.invariant c.in_err-f.ensures)

pub with_flag-set-requires : goal.with_flag-set-requires
with_flag-set-requires c = (omega arith, set_below c.loop-i.invariant)

pub returns-in-Some : goal.returns-in-Some
unfolding ascii
returns-in-Some c =
    rw c.counted.ensures (flags_end c.loop-i.invariant (omega arith) c.in_ok-f.ensures c.with_flag-set.ensures c.in-Some.ensures)

pub returns-in_err-rest : goal.returns-in_err-rest
unfolding ascii
returns-in_err-rest c =
    rw c.from_residual-in_err-rest.ensures
    (flag_ends c.loop-i.invariant (omega arith) c.in_ok-f.ensures c.in_default.ensures c.in_err-rest.ensures)

pub loop-i-preserved : goal.loop-i-preserved
unfolding ascii
loop-i-preserved c =
    flag_follows c.loop-i.invariant (omega arith) c.in_ok-f.ensures c.with_flag-set.ensures c.in_default.ensures c.in_ok-rest.ensures

pub returns : goal.returns
returns c = flags_full c.loop-i.invariant (omega arith)

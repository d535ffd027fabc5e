use Rattle.std.proofs.Common.{arith}
use lib.Count.{count_trailing_zeros}
use Rattle.network.proofs.Lowest.{lowest, drop_lowest, has_le}
use Rattle.network.proofs.members.MembersIterator.next.Goals as goal

pub returns-clause-steps : goal.returns-clause-steps
returns-clause-steps c =
    let s = c.args.self.now.left in
    let l = lowest 64 s (omega arith) c.if-self-eq0.false in
    let drop = drop_lowest 64 s (omega arith) c.if-self-eq0.false in
    let fits = has_le (count_trailing_zeros 64 s) s l.is in
    record { within = l.within; is = l.is; below = l.below; left = omega (arith, drop, fits) }

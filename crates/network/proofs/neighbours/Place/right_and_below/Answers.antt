-- The first part of the rule stands under the test.
use Rattle.std.proofs.Common.{◌+◌, eqb}
use borrow.Author.Tests.{lt-ltb}
use Rattle.network.proofs.Masks.{test_yes}
use Rattle.network.proofs.neighbours.Place.right_and_below.Goals as goal

pub returns-then-self-c : goal.returns-then-self-c
returns-then-self-c c = let a = c.args in test_yes a.self.nodes (eqb (a.self.at + 1)) (eqb (a.self.at + a.c)) (lt-ltb _ _ c.if-self-c.true) c.only.ensures c.only-below.ensures

-- The node before i is in its row where i is not the first there.
use Rattle.std.proofs.Common.{◌+◌, sym, ap, ◌∙◌, Bool, ◌||◌, eqb}
use borrow.Author.Tests.{lt-ltb, le-ltb}
use Rattle.network.proofs.Sets.{set_of_cong}
use Rattle.network.proofs.Masks.{test_yes, test_no, left_is}
use Rattle.network.proofs.neighbours.Place.left_and_above.Goals as goal

pub returns-then-self-c-gt0 : goal.returns-then-self-c-gt0
returns-then-self-c-gt0 c =
    let a = c.args in
    test_yes a.self.nodes (λ j. eqb (j + 1) a.self.at) (λ j. eqb (j + a.c) a.self.at) (lt-ltb _ _ c.if-self-c-gt0.true) c.back.ensures c.back-above.ensures
    ∙ set_of_cong a.self.nodes (λ j _. ap (λ (x : Bool). x || eqb (j + a.c) a.self.at) (sym (left_is a.c a.self.at j c.requires.0)))

pub returns-else-self-c-gt0 : goal.returns-else-self-c-gt0
returns-else-self-c-gt0 c =
    let a = c.args in
    test_no a.self.nodes (λ j. eqb (j + 1) a.self.at) (λ j. eqb (j + a.c) a.self.at) (le-ltb _ _ c.if-self-c-gt0.false) c.back-above.ensures
    ∙ set_of_cong a.self.nodes (λ j _. ap (λ (x : Bool). x || eqb (j + a.c) a.self.at) (sym (left_is a.c a.self.at j c.requires.0)))

-- `protocol::turns::PaxosState::propose` meets its contract, by cases.
-- Assumes nothing.
use Rattle.std.specs.Prelude.{Some}
use Prim.Native.Nat.{ℕ}
use mathlib.Core.Path.{ap, ◌∙◌}
use Rattle.protocol.specs.Paxos.{hold}
use Rattle.protocol.specs.View.{view}
use Rattle.protocol.proofs.state.PaxosState.propose.Goals as goal

pub returns-in-Some : goal.returns-in-Some
returns-in-Some c =
    let a = c.args in
    let t = c.in-Some.term in
    let n = c.hold.ensures in
    rw c.in-Some.is (record { kept = n.kept; is = n.is ∙ ap (λ (v : ℕ). hold t.0 v (Some t) (view a.self.now)) c.vote_of.ensures })

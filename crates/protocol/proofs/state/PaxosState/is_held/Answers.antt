-- `protocol::paxos::PaxosState::is_held` meets its contract: a term is held if it is in the union of the two sets.
-- Assumes nothing.
use Prim.Native.Nat.{ℕ}
use mathlib.Core.Path.{sym, ap, ◌∙◌}
use Rattle.network.specs.Graph.{has}
use Rattle.protocol.proofs.Kept.{held_in}
use Rattle.protocol.proofs.state.PaxosState.is_held.Goals as goal

pub returns : goal.returns
returns c =
    let t = c.args.term.0 in
    c.has.ensures ∙ ap (λ (x : ℕ). has x t) c.held_set.ensures ∙ sym (held_in c.requires.0 t)

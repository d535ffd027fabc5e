-- `protocol::paxos::PaxosState::commit_term` meets its contract, as `proofs/Steps.antt` has it.
-- Assumes nothing.
use Prim.Native.Nat.{ℕ, ◌-◌, ◌^◌, ◌≤◌}
use mathlib.Core.Bool.{true}
use mathlib.Core.Logic.{⊎_elim}
use mathlib.Core.Path.{◌≡◌, refl, sym, ap, ◌∙◌}
use native.Mathlib.Nat.{le_refl}
use native.Mathlib.Omega.{arith}
use lib.Bits.{bit_or}
use Rattle.std.proofs.lemmas.Bool.{cases_lt}
use Rattle.network.specs.Graph.{has}
use Rattle.network.proofs.Sets.{never, has_out}
use Rattle.protocol.proofs.Sets.{bit_word}
use Rattle.protocol.proofs.Steps.{commit_absent, commit_room, commit_pending}
use Rattle.protocol.proofs.state.PaxosState.commit_term.Goals as goal

-- a member's bit is no greater than the set
member_le : (set at : ℕ) → has set at ≡ true → 2 ^ at ≤ set
member_le set at h = ⊎_elim (λ l. never h (has_out l at (le_refl at))) (λ g. g) (cases_lt set (2 ^ at))

pub overflow_sub-self : goal.overflow_sub-self
overflow_sub-self c =
    let a = c.args in
    omega (arith, bit_word a.term.0 c.requires.1, member_le a.self.now.pending a.term.0 (sym c.has.ensures ∙ c.if-has.true))

-- the log has room for one more
pub bounds-self-end : goal.bounds-self-end
bounds-self-end c =
    let a = c.args in
    let s = a.self.now in
    omega (arith, commit_room s a.term c.raised-self.result c.requires.0 c.requires.2 c.raised-self.ensures c.requires.1 (omega arith) (sym c.has.ensures ∙ c.if-has.true))

pub returns-then-has : goal.returns-then-has
returns-then-has c =
    let a = c.args in
    let s = a.self.now in
    let bit = bit_word a.term.0 c.requires.1 in
    commit_pending s a.term c.raised-self.result c.requires.0 c.requires.2 c.raised-self.ensures _ _ _ c.requires.1 (omega arith)
    (sym c.has.ensures ∙ c.if-has.true) refl (ap (λ (x : ℕ). s.pending - x) bit) (ap (bit_or s.logged) bit)

pub returns-else-has : goal.returns-else-has
returns-else-has c =
    let a = c.args in
    commit_absent a.self.now a.term c.raised-self.result c.requires.0 c.requires.2 c.raised-self.ensures
    (sym c.has.ensures ∙ c.if-has.false)

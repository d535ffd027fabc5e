use Rattle.std.proofs.Common.{◌≡◌, ℕ, zero, suc, ◌≤◌, ◌<◌, min, true, ◌&&◌, List, length, sym, ap, ◌∙◌, arith}
use mathlib.Core.Path.{ap₂}
use mathlib.Core.Bool.{and_comm, and_assoc}
use native.Mathlib.Nat.{le_refl, le_trans, le_of_eq, min-le_left, min-eq_left}
use native.Mathlib.Numerals.{add-one}
use lib.Bits.{bit_and}
use lib.Count.{ones}
use Rattle.std.proofs.Math.ListN.{take}
use Rattle.std.proofs.lemmas.List.{length-take, length-take-le, get_or-take}
use Rattle.config.specs.Limits.{max_terms}
use Rattle.network.specs.Graph.{has, all}
use Rattle.network.proofs.Sets.{and_both, same, all_cong, all_elim}
use Rattle.protocol.specs.declared.state.PaxosState.{PaxosState}
use Rattle.protocol.specs.Paxos.{State, logged}
use Rattle.pipeline.specs.Round.{state_of, shortest_from}
use Rattle.rules.specs.Run.{complete}
use Rattle.pipeline.specs.View.{AllKept, outside, state_in, states_of}
use Rattle.pipeline.proofs.StateTables.{table_fits}
use Rattle.pipeline.proofs.Sharing.{state_at, log_length}
use Rattle.rounds.proofs.Full.{all_and}
use Rattle.rounds.proofs.survey.survey.Invariants.{full}
use Rattle.rounds.proofs.survey.survey.Goals as goal
use Rattle.rounds.proofs.survey.survey.Goals.{then-logged-first, else-logged-first}

-- what is counted from k is at most k
shortest_le : (k : ℕ) (states : List State) (m : ℕ) → shortest_from k states m ≤ k
unfolding shortest_from
shortest_le k states zero = le_refl k
shortest_le k states (suc m) = le_trans (min-le_left _ _) (shortest_le k states m)

full_is : (n : ℕ) (states : List PaxosState) (proposals i : ℕ) → AllKept max_terms n states → i < n → all proposals (has (state_in states i).logged) ≡ full n states proposals i
full_is n states proposals i k h =
    all_cong proposals (λ t _. sym ((k.each i h).logged_is t))
    ∙ ap (λ (s : State). all proposals (λ (t : ℕ). logged t s.log)) (sym (state_at n states i h))

pub loop-state-init : goal.loop-state-init
unfolding shortest_from all
loop-state-init c =
    let p = c.requires in
    let a = c.args in (
      sym (log_length a.n a.states.now 0 p.some),
      full_is a.n a.states.now a.proposals 0 p.kept p.some ∙ and_comm true (full a.n a.states.now a.proposals 0),
    )

pub loop-state-preserved : goal.loop-state-preserved
unfolding shortest_from all
loop-state-preserved c =
    let l = c.loop-state in
    let a = c.args in
    let b = a.states.now in
    let states = states_of a.n b in
    let here : l.state-index < a.n = omega (arith, c.loop-state-test.true, length-take a.n b) in
    let state = get_or-take a.n b l.state-index outside here in
    let size = log_length a.n b in
    let f = full a.n b a.proposals in (
      elim c.if-logged-first.branch [
        | then-logged-first w ↦ w.shortest-is
            ∙ w.min-shortest.ensures
            ∙ ap (λ (s : PaxosState). min l.shortest (ones s.logged)) state
            ∙ ap₂ min l.invariant.0 (sym (size l.state-index here))
            ∙ ap (shortest_from (length (state_of states 0).log) states) (sym (add-one l.state-index))
        | else-logged-first w ↦
            w.shortest-is
            ∙ l.invariant.0
            ∙ sym (min-eq_left (le_trans (shortest_le (length (state_of states 0).log) states l.state-index) (le_of_eq (size 0 c.requires.some ∙ ap ones (sym w.if-logged-first.false) ∙ ap (λ (s : PaxosState). ones s.logged) state ∙ sym (size l.state-index here)))))
            ∙ ap (shortest_from (length (state_of states 0).log) states) (sym (add-one l.state-index))
      ],
      ap (λ (s : PaxosState). all a.proposals (has (bit_and l.common s.logged))) state
          ∙ all_and a.proposals l.common (state_in b l.state-index).logged
          ∙ ap₂ ◌&&◌ l.invariant.1 (full_is a.n b a.proposals l.state-index c.requires.kept here)
          ∙ and_assoc (f 0) (all l.state-index f) (f l.state-index)
          ∙ ap (λ (k : ℕ). f 0 && all k f) (sym (add-one l.state-index)),
    )

pub returns : goal.returns
unfolding complete
returns c =
    let l = c.loop-state in
    let a = c.args in
    let states = states_of a.n a.states.now in
    let f = full a.n a.states.now a.proposals in
    let part : length (take a.n a.states.now) ≡ a.n =
    length-take-le a.n a.states.now (omega (arith, c.requires.kept.room, table_fits a.n c.requires.few)) in
    let done : l.state-index ≡ a.n = omega (arith, part, c.loop-state-test.false, l.auto.state-index-end) in
    record {
      shortest = l.invariant.0 ∙ ap (shortest_from (length (state_of states 0).log) states) done;
      complete =
          c.logs_all.ensures
          ∙ l.invariant.1
          ∙ ap (λ (k : ℕ). f 0 && all k f) done
          ∙ same (λ e. (and_both (f 0) (all a.n f) e).1) (λ e. ap₂ ◌&&◌ (all_elim a.n f e 0 c.requires.some) e);
    }

use Rattle.std.specs.Prelude.{Option}
use Prim.Native.Nat.{ℕ, ◌+◌}
use mathlib.Core.Path.{◌≡◌, refl, sym, ap, subst⁻¹, ◌∙◌}
use native.Mathlib.Omega.{arith}
use lib.ListN.{set, take}
use Rattle.config.specs.Limits.{max_terms}
use Rattle.network.specs.Graph.{has}
use Rattle.phy.specs.Slot.{among}
use Rattle.phy.specs.declared.packet.Piggyback.{Piggyback}
use Rattle.protocol.specs.Turns.{Participated, participant_turn}
use Rattle.protocol.specs.View.{view}
use Rattle.protocol.proofs.Kept.{kept_mono, last_mono}
use Rattle.protocol.proofs.Chains.{terms_mono}
use Rattle.pipeline.specs.declared.carry.Carry.{Carry}
use Rattle.pipeline.specs.Round.{state_of, take_turn, latest, one_piggyback}
use Rattle.pipeline.specs.View.{starts_of, state_in, shared_of, states_of, TakesTurn}
use Rattle.pipeline.proofs.Recordings.{records_are}
use Rattle.pipeline.proofs.Sharing.{in_table, state_at, states_set, start_at, starts_same, started_same, participant_newly, kept_set, latest_below, one_at_most}
use Rattle.pipeline.proofs.round.take_turn.Goals as goal

pub participant_turn-turn-requires : goal.participant_turn-turn-requires
participant_turn-turn-requires c =
    let pre = c.requires in
    (kept_mono pre.sharing.few (omega arith) (pre.sharing.kept.each c.args.node.0 pre.node), terms_mono pre.sharing.few pre.below, omega (arith, pre.node, pre.nodes))

pub returns : goal.returns
unfolding shared_of take_turn
returns c =
    let a = c.args in
    let pre = c.requires in
    let x = a.x in
    let p = a.packet in
    let j = a.node.0 in
    let held = a.states.now in
    let room = in_table pre.sharing.kept pre.nodes j pre.node in
    let turn = c.participant_turn-turn in
    let took = turn.ensures in
    let recorded = c.record_all-recorded in
    let below = pre.below in
    subst⁻¹ (λ (r : Carry). TakesTurn p a.slot a.node x held a.history.now r (set held j turn.new.self) recorded.new.self) c.recovered.ensures
    (record {
      counter = refl;
      nacks = refl;
      piggybacks = omega (arith, one_at_most turn.result.recovery);
      sharing = λ n h s. record {
        few = s.few;
        kept = kept_set j s.kept (omega arith) s.few room (took.kept x.counter below (s.kept.each j h));
        started = started_same recorded.ensures s.started;
        recording = recorded.ensures.recording;
        back = latest_below x.counter turn.result.recovery x.piggyback (took.back x.counter below (s.kept.each j h)) s.back;
      };
      shared = λ n h s.
          let spec : Participated = participant_turn j p (state_of (states_of n held) j) in
          let same : spec ≡ participant_turn j p (view (state_in held j)) = ap (participant_turn j p) (state_at n held j h) in
          let states = states_set n held j turn.new.self spec.state h room (took.state ∙ sym (ap (λ (t : Participated). t.state) same)) in
          let newly : among max_terms (has turn.result.newly) ≡ spec.newly
          = ap (λ (w : ℕ). among max_terms (has w)) took.newly
          ∙ participant_newly j p (view (state_in held j)) (last_mono p.last_accepted_term s.few below.last)
          ∙ sym (ap (λ (t : Participated). t.newly) same) in
          let records = records_are (take x.counter (starts_of a.history.now)) recorded.ensures newly refl (start_at s.started) in
          let recovered = took.recovered ∙ sym (ap (λ (t : Participated). t.recovered) same) in
          let back = ap (λ (q : Option Piggyback). latest q x.piggyback) recovered in
          let piggybacks = ap (λ (w : ℕ). x.piggybacks + w) (ap one_piggyback recovered) in
          let starts = starts_same recorded.ensures x.counter x.counter refl in
          λ i. record {
            states = states i;
            counter = x.counter;
            starts = starts i;
            records = records i;
            piggyback = back i;
            nacks = x.nacks;
            piggybacks = piggybacks i;
          };
    })

use Rattle.std.specs.Prelude.{Option}
use Rattle.std.specs.Bool.{then_some}
use Prim.Native.Nat.{ℕ, ◌+◌, ◌≤◌}
use mathlib.Core.Path.{◌≡◌, refl, sym, ap, subst, subst⁻¹, ◌∙◌}
use mathlib.Core.Bool.{cond}
use mathlib.Core.List.{List, [], ◌∷◌, ◌++◌}
use native.Mathlib.Omega.{arith}
use lib.Dec.{ltb}
use mir.Val.{bool_byte}
use lib.ListN.{length, get_or, take}
use Rattle.config.specs.Limits.{max_terms}
use Rattle.network.specs.declared.units.Slot.{Slot}
use Rattle.network.specs.declared.units.Term.{Term}
use Rattle.pipeline.specs.declared.records.History.{History}
use Rattle.network.specs.Graph.{has}
use Rattle.phy.specs.Slot.{among}
use Rattle.phy.specs.declared.packet.Packet.{Packet}
use Rattle.protocol.specs.Turns.{Initiated, counter_after, initiator_turn}
use Rattle.protocol.specs.View.{view, last_below, TermsBelow}
use Rattle.protocol.proofs.Chains.{back_mono}
use Rattle.pipeline.specs.Round.{state_of, one_nack, prepare_round}
use Rattle.pipeline.specs.View.{with_start, Started, Starts, starts_of, state_in, shared_of, states_of}
use Rattle.pipeline.proofs.Recordings.{records_are}
use Rattle.pipeline.proofs.Sharing.{proposal_fits, starts_now, made_counted, nack_counted, in_table, started_as, kept_as, counter_after_is, proposing, nack_at_most, state_at, states_set, start_at, starts_recording, starts_records, starts_same, started_same, initiator_newly, kept_set}
use Rattle.pipeline.proofs.round.prepare_round.Goals as goal

-- the history with the start of the proposal, if one is made
started_now : (counter proposals : ℕ) (slot : Slot) (h h' : History) (p : Option Term) → p ≡ then_some (ltb counter proposals) (record { 0 = counter }) →
    h' ≡ with_start p slot h → counter ≤ max_terms → proposals ≤ max_terms → max_terms ≤ length h.starts → Started counter h → Starts counter (ltb counter proposals) slot.0 h h'
started_now counter proposals slot h h' p is kept few most room begun =
    let fits = proposing counter proposals few most in
    subst⁻¹ (λ (t : History). Starts counter (ltb counter proposals) slot.0 h t) (kept ∙ ap (λ (q : Option Term). with_start q slot h) is)
    (starts_now (ltb counter proposals) counter slot h begun (omega (arith, fits, room)))

pub keep_start-requires : goal.keep_start-requires
keep_start-requires c =
    let a = c.args in
    subst⁻¹ (last_below max_terms) c.then_some.ensures (proposal_fits _ a.x.counter (proposing a.x.counter a.proposals c.requires.sharing.few c.requires.most))

pub record_all-recorded-requires : goal.record_all-recorded-requires
record_all-recorded-requires c =
    let a = c.args in
    let started = started_now a.x.counter a.proposals a.slot a.history.now _ _ c.then_some.ensures c.keep_start.ensures c.requires.sharing.few c.requires.most (omega arith) c.requires.sharing.started in
    starts_recording a.x.recorded started c.requires.sharing.recording

pub returns : goal.returns
unfolding shared_of prepare_round
returns c =
    let a = c.args in
    let n = a.n in
    let i = a.initiator.0 in
    let x = a.x in
    let held = a.states.now in
    let b = ltb x.counter a.proposals in
    let s = c.requires.sharing in
    let most : x.counter + cond b 1 0 ≤ max_terms = proposing x.counter a.proposals s.few c.requires.most in
    let here = c.requires.initiator in
    let room = in_table s.kept c.requires.nodes i here in
    let turn = c.initiator_turn-turn in
    let took = turn.ensures in
    let begun = started_now x.counter a.proposals a.slot a.history.now _ _ c.then_some.ensures c.keep_start.ensures s.few c.requires.most (omega arith) s.started in
    let recorded = c.record_all-recorded in
    let one = c.from in
    let nacked = c.from-2.ensures ∙ ap bool_byte c.is_some.ensures ∙ nack_counted turn.result.packet.nack_term in
    let count : x.counter + one.result ≡ x.counter + cond b 1 0 = ap (λ (k : ℕ). x.counter + k) (one.ensures ∙ made_counted b) in
    let spec : Initiated = initiator_turn i n x.counter b x.piggyback (state_of (states_of n held) i) in
    let same : spec ≡ initiator_turn i n x.counter b x.piggyback (view (state_in held i)) = ap (initiator_turn i n x.counter b x.piggyback) (state_at n held i here) in
    let packet : turn.result.packet ≡ spec.packet = took.packet ∙ sym (ap (λ (t : Initiated). t.packet) same) in
    let counted-now : counter_after b x.counter ≡ x.counter + one.result = counter_after_is b x.counter ∙ sym count in
    let newly : among max_terms (has turn.result.newly) ≡ spec.newly
    = ap (λ (w : ℕ). among max_terms (has w)) took.newly ∙ initiator_newly i n x.counter b x.piggyback (view (state_in held i)) ∙ sym (ap (λ (t : Initiated). t.newly) same) in
    let states = states_set n held i turn.new.self spec.state here room (took.state ∙ sym (ap (λ (t : Initiated). t.state) same)) in
    let starts = starts_same recorded.ensures (x.counter + one.result) (x.counter + cond b 1 0) count ∙ begun.starts in
    let records = records_are (take x.counter (starts_of a.history.now) ++ cond b (a.slot.0 ∷ []) []) recorded.ensures newly (starts_records x.recorded.count begun) (λ t. start_at begun.started t ∙ ap (λ (l : List ℕ). get_or l t 0) begun.starts) in
    let nacks = ap (λ (k : ℕ). x.nacks + k) (nacked ∙ ap (λ (q : Packet). one_nack q.nack_term) packet) in
    record {
      sharing = record {
        few = omega (arith, count, most);
        kept = kept_set i s.kept (omega arith) (omega (arith, count, most)) room (kept_as counted-now took.kept);
        started = started_as (sym count) (started_same recorded.ensures begun.started);
        recording = recorded.ensures.recording;
        back = back_mono x.piggyback (omega arith) s.back;
      };
      nacks = omega (arith, nacked, nack_at_most turn.result.packet.nack_term);
      piggybacks = refl;
      below = subst (λ (m : ℕ). TermsBelow m turn.result.packet) counted-now (took.below s.back);
      shared = λ j. record {
        states = states j;
        counter = sym counted-now j;
        starts = starts j;
        records = records j;
        piggyback = x.piggyback;
        nacks = nacks j;
        piggybacks = x.piggybacks;
      };
      packet = packet;
    }

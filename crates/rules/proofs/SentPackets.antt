-- Every packet of an accepted run is of its nodes and of terms below 64, and its data is that of its terms. Assumes nothing.
use Rattle.std.specs.Prelude.{Option, Some, None}
use Prim.Native.Nat.{ℕ, zero, suc, ◌+◌, ◌-◌, ◌^◌, ◌≤◌, ◌<◌, zero-le}
use mathlib.Core.Bool.{Bool, true, false, cond, ◌||◌, true≢false}
use mathlib.Core.Logic.{⊎_elim}
use mathlib.Core.Option.{some}
use mathlib.Core.Path.{◌≡◌, refl, sym, ap, ap₂, subst, ◌∙◌}
use native.Mathlib.Nat.{le_trans, le_refl, mod-lt}
use native.Mathlib.Omega.{arith}
use borrow.Author.Tests.{eqb-true, eqb-false, ltb-true, ne_eqb}
use lib.Bits.{or_lt}
use lib.Dec.{eqb, leb, ltb}
use lib.ListN.{get_elem?}
use lib.Pow.{pow-lt, pow_mono, pow_pos}
use Rattle.config.specs.Limits.{max_terms, most_rounds, set_bits}
use Rattle.network.specs.Graph.{has}
use Rattle.network.proofs.Sets.{two}
use Rattle.network.specs.declared.units.Term.{Term}
use Rattle.phy.specs.declared.packet.Packet.{Packet}
use Rattle.phy.specs.declared.packet.Piggyback.{Piggyback}
use Rattle.protocol.specs.Growth.{own_log, Own, own_back}
use Rattle.protocol.specs.Paxos.{Pending, State, empty, union, vote, logged, held, is_some, hold, voted, merge_votes_up_to, log_entry, after_last, gap_in, detect_gap, data_in, find, reply, recovery}
use Rattle.protocol.specs.Turns.{counter_after, current_term_of, nack, votes_of, announce, initiator_turn, take_votes, participant_turn}
use Rattle.protocol.specs.View.{data_below, proposal_below, back_below}
use Rattle.protocol.proofs.Chains.{back_mono, counter_more, proposal_below_lem}
use Rattle.protocol.proofs.Commit.{one_logged}
use Rattle.protocol.proofs.Growing.{by_log}
use Rattle.protocol.proofs.Laws.{Keeps, AskData, AskBack, AnyData, AnyVotes, participant_keeps, initiator_keeps}
use Rattle.protocol.proofs.Logs.{logged_append, or_left_false, or_right_false}
use Rattle.protocol.proofs.Places.{same_or}
use Rattle.protocol.proofs.Sets.{union_or}
use Rattle.protocol.proofs.TurnLaws.{any_data, any_back, initiator_own, initiator_packet, participant_own, participant_recovered}
use Rattle.pipeline.specs.Round.{Shared, state_of, initiator_of, latest, prepare_round, take_turn, turns, cleared, process_round}
use Rattle.pipeline.proofs.Sharing.{all_new, all_set}
use Rattle.rules.specs.Accepted.{Accepted}
use Rattle.rules.specs.Run.{Given, Past, Running, begin, prepared_in, flooded_in, run_round, run_for}
use Rattle.rules.specs.SentPackets.{nack_below, SentPacket, AllSent}
use Rattle.rules.proofs.Ends.{along_rounds}
use Rattle.rules.proofs.ExactRun.{elem_snoc}
use Rattle.rules.proofs.Tallies.{Low, low_initiator, low_participant}

-- ---- what every turn keeps of a node's state

-- terms that are held are below c
abbrev HeldBelow : ℕ → State → Type 0
HeldBelow c s = (t : ℕ) → c ≤ t → held t s ≡ false

-- votes are those of the first n nodes
abbrev VotesBelow : ℕ → State → Type 0
VotesBelow n s = (t : ℕ) → votes_of (s.pending t) < 2 ^ n

held_below : (c : ℕ) → Keeps (λ t d. t < c) AnyVotes (HeldBelow c)
unfolding hold merge_votes_up_to logged
held_below c =
    record {
      commits = λ t s q. by_log (HeldBelow c) t s (λ e. q)
          (λ e j h.
          let here : logged j s.log ≡ false = or_left_false (logged j s.log) (is_some (s.pending j)) (q j h) in
          let there : is_some (s.pending j) ≡ false = or_right_false (logged j s.log) (is_some (s.pending j)) (q j h) in
          ap₂ ◌||◌ (logged_append j s.log (log_entry t (s.pending t)) ∙ ap₂ ◌||◌ here (entering t j s there)) (dropped (eqb j t) (s.pending j) there));
      holds = λ t v d s e a w q j h.
          ap (λ (b : Bool). logged j s.log || is_some (cond b (Some (record { votes = v; «data» = d })) (s.pending j))) (ne_eqb j t (λ g. omega (arith, g))) ∙ q j h;
      merges = λ u f s w q j h. ap (λ (b : Bool). logged j s.log || b) (voting (leb j u) f (s.pending j)) ∙ q j h;
    }
  where
    -- what enters the log was pending
    entry : (j t : ℕ) (o : Option Pending) → is_some o ≡ false → logged j (log_entry t o) ≡ false
    entry j t None e = refl
    entry j t (Some p) e = absurd (true≢false e)

    entering : (t j : ℕ) (s : State) → is_some (s.pending j) ≡ false → logged j (log_entry t (s.pending t)) ≡ false
    entering t j s e =
        ⊎_elim (λ w. entry j t (s.pending t) (ap (λ (k : ℕ). is_some (s.pending k)) (sym (eqb-true j t w)) ∙ e)) (one_logged j t (s.pending t)) (two (eqb j t))

    dropped : (b : Bool) (o : Option Pending) → is_some o ≡ false → is_some (cond b None o) ≡ false
    dropped true o e = refl
    dropped false o e = e

    voting : (b : Bool) (f : ℕ) (o : Option Pending) → is_some (voted b f o) ≡ is_some o
    voting b f None = refl
    voting true f (Some p) = refl
    voting false f (Some p) = refl

union_below : (n a b : ℕ) → n ≤ set_bits → a < 2 ^ n → b < 2 ^ n → union a b < 2 ^ n
union_below n a b few ha hb = rw (union_or a b (le_trans ha (pow_mono few)) (le_trans hb (pow_mono few))) (or_lt n a b ha hb)

votes_below : (n : ℕ) → n ≤ set_bits → Keeps AnyData (λ v. v < 2 ^ n) (VotesBelow n)
unfolding hold merge_votes_up_to
votes_below n few =
    record {
      commits = λ t s q. by_log (VotesBelow n) t s (λ e. q) (λ e j. same_or (λ (b : Bool). votes_of (cond b None (s.pending j)) < 2 ^ n) j t (λ g. pow_pos n) (λ g. q j));
      holds = λ t v d s e a w q j. same_or (λ (b : Bool). votes_of (cond b (Some (record { votes = v; «data» = d })) (s.pending j)) < 2 ^ n) j t (λ g. w) (λ g. q j);
      merges = λ u f s w q j. voting (leb j u) f (s.pending j) w (q j);
    }
  where
    voting : (b : Bool) (f : ℕ) (o : Option Pending) → f < 2 ^ n → votes_of o < 2 ^ n → votes_of (voted b f o) < 2 ^ n
    voting b f None w q = q
    voting true f (Some p) w q = union_below n p.votes f few q w
    voting false f (Some p) w q = q

-- ---- a node's state and a packet, while the counter is c

record Holding (n c : ℕ) (s : State) : Type 0 where
  own : Own s
  below : HeldBelow c s
  votes : VotesBelow n s
  low : Low s

holding_more : {n c d : ℕ} {s : State} → c ≤ d → Holding n c s → Holding n d s
holding_more h k = record { own = k.own; below = λ t l. k.below t (le_trans h l); votes = k.votes; low = k.low }

record Sending (n c : ℕ) (p : Packet) : Type 0 where
  sent : SentPacket n p
  nack : nack_below c p.nack_term
  proposal : proposal_below c p.current_term.0 p.proposal_data
  back : back_below c p.piggyback

-- a gap is below the counter
abbrev gap_below : ℕ → Option Term → Type 0
gap_below c None = Unit {0}
gap_below c (Some t) = t.0 < c

gap_in_below : (c k t : ℕ) (s : State) → (1 ≤ k → t + k ≤ c) → gap_below c (gap_in k t s)
unfolding gap_in
gap_in_below c zero t s h = tt
gap_in_below c (suc k) t s h = go (held t s) (gap_in_below c k (suc t) s (λ l. omega (arith, h (omega arith))))
  where
    go : (b : Bool) → gap_below c (gap_in k (suc t) s) → gap_below c (cond b (gap_in k (suc t) s) (Some (record { 0 = t })))
    go true later = later
    go false later = omega (arith, h (omega arith))

-- and so is a NACK, which is not of term 0
nack_below_lem : (c : ℕ) (s : State) → nack_below c (nack (detect_gap c s))
unfolding detect_gap
nack_below_lem c s = of_gap (detect_gap c s) (gap_in_below c (c - after_last s.last) (after_last s.last) s (λ l. omega (arith, l)))
  where
    of_gap : (gap : Option Term) → gap_below c gap → nack_below c (nack gap)
    of_gap None h = tt
    of_gap (Some t) h = go (eqb t.0 0) refl
      where
        go : (b : Bool) → eqb t.0 0 ≡ b → nack_below c (cond b None (Some t))
        go true e = tt
        go false e = (omega (arith, eqb-false t.0 0 e), h)

nack_more : {c d : ℕ} (a : Option Term) → c ≤ d → nack_below c a → nack_below d a
nack_more None h k = tt
nack_more (Some t) h k = (k.0, le_trans k.1 h)

-- a term that is recovered is the NACK's
recovery_below : (c : ℕ) → c ≤ max_terms → (a : Option Term) (s : State) → nack_below c a → own_back (recovery a s) → back_below c (recovery a s)
unfolding recovery
recovery_below c most None s h own = tt
recovery_below c most (Some t) s h own = go (data_in (find t.0 s.log) (s.pending t.0)) own
  where
    go : (o : Option (Option Term)) → own_back (reply t.0 o) → back_below c (reply t.0 o)
    go None w = tt
    go (Some d) w = (h.1, subst data_below (sym w) (omega (arith, h.1)))

-- the current term, and that of a proposal
current_below : (b : Bool) (c : ℕ) → counter_after b c ≤ max_terms → current_term_of b c < max_terms
current_below true c h = omega arith
current_below false c h = omega arith

proposed_below : (b : Bool) (c : ℕ) → b ≡ true → c < counter_after b c
proposed_below true c e = omega arith
proposed_below false c e = absurd (true≢false (sym e))

-- ---- the turns of node i

module _ (n : ℕ) (few : n ≤ set_bits) (i : ℕ) (node : i < n) where
  initiator_holds : (c : ℕ) (b : Bool) (pb : Option Piggyback) (s : State) → Holding n c s → Holding n (counter_after b c) (initiator_turn i n c b pb s).state
  initiator_holds c b pb s k =
      let free : held c s ≡ false = k.below c (le_refl c) in
      record {
        own = initiator_own i n c b pb s free k.own;
        below =
            initiator_keeps (λ t d. t < counter_after b c) AnyVotes (HeldBelow (counter_after b c)) (held_below (counter_after b c)) i tt n c b pb s free (proposed_below b c)
            (holding_more (counter_more b c) k).below;
        votes = initiator_keeps AnyData (λ v. v < 2 ^ n) (VotesBelow n) (votes_below n few) i (pow-lt node) n c b pb s free (λ _. tt) k.votes;
        low = low_initiator i n c b pb s k.low;
      }

  initiator_sends : (c : ℕ) (b : Bool) (pb : Option Piggyback) (s : State) → counter_after b c ≤ max_terms → Holding n c s → back_below c pb → own_back pb →
      Sending n (counter_after b c) (initiator_turn i n c b pb s).packet
  unfolding initiator_turn announce
  initiator_sends c b pb s most k back own =
      let now = initiator_holds c b pb s k in
      let nacked = nack_more (nack (detect_gap c s)) (counter_more b c) (nack_below_lem c s) in
      let again = back_mono pb (counter_more b c) back in
      record {
        sent = record {
          sender = node;
          flags = union_below n (votes_of ((initiator_turn i n c b pb s).state.pending (current_term_of b c))) (vote i) few (now.votes (current_term_of b c)) (pow-lt node);
          current = current_below b c most;
          last = now.low;
          nack = nack_more (nack (detect_gap c s)) most nacked;
          back = back_mono pb most again;
          own = initiator_packet i n c b pb s own;
        };
        nack = nacked;
        proposal = proposal_below_lem b c most;
        back = again;
      }

  module _ (c : ℕ) (p : Packet) (s : State) (sending : Sending n c p) (k : Holding n c s) where
    participant_holds : Holding n c (participant_turn i p s).state
    participant_holds =
        record {
          own = participant_own i p s sending.sent.own k.own;
          below =
              participant_keeps (λ t d. t < c) AnyVotes (HeldBelow c) (held_below c) i tt p s tt (asked p.current_term.0 p.proposal_data sending.proposal)
              (asked_back p.piggyback sending.back) k.below;
          votes =
              participant_keeps AnyData (λ v. v < 2 ^ n) (VotesBelow n) (votes_below n few) i (pow-lt node) p s sending.sent.flags
              (any_data p.current_term.0 p.proposal_data) (any_back p.piggyback) k.votes;
          low = low_participant i p s sending.sent.last k.low;
        }
      where
        asked : (t : ℕ) (d : Option Term) → proposal_below c t d → AskData (λ u e. u < c) t d
        asked t None h = tt
        asked t (Some u) h = h.0

        asked_back : (pb : Option Piggyback) → back_below c pb → AskBack (λ u e. u < c) pb
        asked_back None h = tt
        asked_back (Some again) h = h.0

    participant_own_back : own_back (participant_turn i p s).recovered
    participant_own_back = participant_recovered i p s sending.sent.own k.own

    participant_back : c ≤ max_terms → back_below c (participant_turn i p s).recovered
    unfolding participant_turn
    participant_back most = recovery_below c most p.nack_term (take_votes i p s) sending.nack participant_own_back

-- ---- what the nodes share

record InOrder (n P : ℕ) (s : Shared) : Type 0 where
  counter : s.counter ≤ P
  states : (j : ℕ) → Holding n s.counter (state_of s.states j)
  back : back_below s.counter s.piggyback
  own : own_back s.piggyback

counter_most : (c P : ℕ) → c ≤ P → counter_after (ltb c P) c ≤ P
counter_most c P h = go (ltb c P) refl
  where
    go : (b : Bool) → ltb c P ≡ b → counter_after b c ≤ P
    go true e = omega (arith, ltb-true c P e)
    go false e = h

module _ (n P : ℕ) (few : n ≤ set_bits) (most : P ≤ max_terms) where
  order_prepared : (i slot : ℕ) (s : Shared) → i < n → InOrder n P s → InOrder n P (prepare_round n P i slot s).shared
  unfolding prepare_round
  order_prepared i slot s node o =
      let b : Bool = ltb s.counter P in
      let more : s.counter ≤ counter_after b s.counter = counter_more b s.counter in
      record {
        counter = counter_most s.counter P o.counter;
        states = all_set (Holding n (counter_after b s.counter)) s.states i _ (λ j. holding_more more (o.states j))
            (initiator_holds n few i node s.counter b s.piggyback (state_of s.states i) (o.states i));
        back = back_mono s.piggyback more o.back;
        own = o.own;
      }

  packet_sends : (i slot : ℕ) (s : Shared) → i < n → InOrder n P s → Sending n (prepare_round n P i slot s).shared.counter (prepare_round n P i slot s).packet
  unfolding prepare_round
  packet_sends i slot s node o =
      initiator_sends n few i node s.counter (ltb s.counter P) s.piggyback (state_of s.states i) (le_trans (counter_most s.counter P o.counter) most)
      (o.states i) o.back o.own

  -- in order, while the counter is c
  record Turned (c : ℕ) (s : Shared) : Type 0 where
    order : InOrder n P s
    same : s.counter ≡ c

  module _ (packet : Packet) (slot part : ℕ) where
    order_turn : (j : ℕ) (s : Shared) → j < n → Sending n s.counter packet → InOrder n P s → InOrder n P (take_turn packet slot j s)
    unfolding take_turn
    order_turn j s node sending o =
        let c : ℕ = s.counter in
        let state : State = state_of s.states j in
        let own = participant_own_back n few j node c packet state sending (o.states j) in
        let back = participant_back n few j node c packet state sending (o.states j) (le_trans o.counter most) in
        record {
          counter = o.counter;
          states = all_set (Holding n c) s.states j _ o.states (participant_holds n few j node c packet state sending (o.states j));
          back = newest (back_below c) (participant_turn j packet state).recovered s.piggyback back o.back;
          own = newest own_back (participant_turn j packet state).recovered s.piggyback own o.own;
        }
      where
        newest : (Q : Option Piggyback → Type 0) (new old : Option Piggyback) → Q new → Q old → Q (latest new old)
        newest Q None old a b = b
        newest Q (Some again) old a b = a

    order_turns : (c m : ℕ) (s : Shared) → m ≤ n → Sending n c packet → Turned c s → Turned c (turns packet slot part m s)
    unfolding turns take_turn
    order_turns c zero s h sending o = o
    order_turns c (suc m) s h sending o = go (has part m) (order_turns c m s (omega arith) sending o)
      where
        before : Shared
        before = turns packet slot part m s

        go : (b : Bool) → Turned c before → Turned c (elim b [ true ↦ take_turn packet slot m before | false ↦ before ])
        go true w = record { order = order_turn m before h (subst (λ (x : ℕ). Sending n x packet) (sym w.same) sending) w.order; same = w.same }
        go false w = w

    order_processed : (s : Shared) → Sending n s.counter packet → InOrder n P s → InOrder n P (process_round n packet slot part s)
    unfolding process_round
    order_processed s sending o =
        (order_turns s.counter n (cleared s) (le_refl n) sending (record { order = record { counter = o.counter; states = o.states; back = tt; own = tt }; same = refl })).order

-- ---- all rounds of a run

-- between two rounds: what the nodes share is in order, and so was every packet
record Sent (g : Given) (r : Running) : Type 0 where
  order : InOrder g.nodes g.proposals r.shared
  past : (i : ℕ) (p : Past) → get_elem? r.rounds i ≡ some p → SentPacket g.nodes p.packet

module _ (g : Given) (a : Accepted g) where
  few : g.nodes ≤ set_bits
  few = omega (arith, a.few)

  sent_begin : Sent g (begin g)
  unfolding own_log logged
  sent_begin =
      record {
        order = record {
          counter = zero-le;
          states = all_new (Holding g.nodes 0) new g.nodes;
          back = tt;
          own = tt;
        };
        past = λ i p e. absurd (let z : ◌≡◌ {A = ℕ} 0 1 = cc in omega arith);
      }
    where
      new : Holding g.nodes 0 empty
      new = record { own = record { log = tt; pending = λ t. tt }; below = λ t h. refl; votes = λ t. pow_pos g.nodes; low = tt }

  sent_next : (k : ℕ) (r : Running) → Sent g r → Sent g (run_round g k r)
  unfolding run_round
  sent_next k r now =
      let node : initiator_of g.nodes k < g.nodes = mod-lt k (omega (arith, a.two)) in
      let sending = packet_sends g.nodes g.proposals few a.proposals (initiator_of g.nodes k) r.standing.slot r.shared node now.order in
      record {
        order =
            order_processed g.nodes g.proposals few a.proposals (prepared_in g k r).packet (flooded_in g k r).after.slot (flooded_in g k r).part (prepared_in g k r).shared sending
            (order_prepared g.nodes g.proposals few a.proposals (initiator_of g.nodes k) r.standing.slot r.shared node now.order);
        past = λ i p e. ⊎_elim (now.past i p) (λ w. subst (λ (x : Past). SentPacket g.nodes x.packet) w.1 sending.sent) (elem_snoc r.rounds _ i p e);
      }

pub all_sent : AllSent
unfolding run_for
all_sent g a k p e = (along_rounds g (λ _. Sent g) (sent_next g a) (most_rounds g.proposals) 0 (begin g) (sent_begin g a)).holds.past k p e

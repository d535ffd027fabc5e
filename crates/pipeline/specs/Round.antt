-- `prepare_round` and `process_round` over all nodes (rules 6.3 to 6.5, 6.7 and 6.8).
use Rattle.std.specs.Prelude.{ℕ, zero, suc, ◌+◌, ◌%◌, min, Bool, true, false, cond, ◌||◌, List, [], ◌∷◌, ◌++◌, ltb, eqb, length, get_or, set, Option, Some, None}
use Rattle.network.specs.Graph.{has}
use Rattle.network.specs.declared.units.Term.{Term}
use Rattle.phy.specs.declared.packet.Packet.{Packet}
use Rattle.phy.specs.declared.packet.Piggyback.{Piggyback}
use Rattle.protocol.specs.Paxos.{State, empty}
use Rattle.protocol.specs.Turns.{Initiated, Participated, counter_after, initiator_turn, participant_turn}

-- A record: a term, the first slot of the round that proposed it, and the slot at which it was first newly committed.
pub record Record : Type 0 where
  pub id : ℕ
  pub start : ℕ
  pub end : ℕ

-- a record's numbers
abbrev pub record_triple : Record → List ℕ
record_triple r = r.id ∷ r.start ∷ r.end ∷ []

-- node j's Paxos state
abbrev pub state_of : List State → ℕ → State
state_of states j = get_or states j empty

-- t is recorded
unfoldable pub recorded : ℕ → List Record → Bool
recorded t [] = false
recorded t (r ∷ rs) = eqb t r.id || recorded t rs

-- record the terms not recorded before, each with the first slot of the round that proposed it, and this end
unfoldable pub record_all : List ℕ → ℕ → List ℕ → List Record → List Record
record_all starts end [] records = records
record_all starts end (t ∷ ts) records =
    record_all starts end ts
    (cond (recorded t records) records (records ++ (record { id = t; start = get_or starts t 0; end = end } ∷ [])))

-- What the rounds carry besides the flood: the nodes' Paxos states, the counter (how many proposals were made), the first slot of
-- the round that made each, the records, the piggyback for the next packet, and the counts of NACKs and piggybacks.
pub record Shared : Type 0 where
  pub states : List State
  pub counter : ℕ
  pub starts : List ℕ
  pub records : List Record
  pub piggyback : Option Piggyback
  pub nacks : ℕ
  pub piggybacks : ℕ

pub record Prepared : Type 0 where
  pub shared : Shared
  pub packet : Packet

abbrev pub one_nack : Option Term → ℕ
one_nack None = 0
one_nack (Some t) = 1

-- the initiator of a round
abbrev pub initiator_of : ℕ → ℕ → ℕ
initiator_of n round = round % n

-- `prepare_round` of initiator i at this slot, with P proposals: its turn on its own state; a new proposal if any is left; a NACK is
-- counted; what is newly committed is recorded to end at this slot
unfoldable pub prepare_round : ℕ → ℕ → ℕ → ℕ → Shared → Prepared
prepare_round n proposals i slot s =
    let proposes : Bool = ltb s.counter proposals in
    let turn : Initiated = initiator_turn i n s.counter proposes s.piggyback (state_of s.states i) in
    let starts : List ℕ = s.starts ++ cond proposes (slot ∷ []) [] in
    record {
      shared = record {
        states = set s.states i turn.state;
        counter = counter_after proposes s.counter;
        starts = starts;
        records = record_all starts slot turn.newly s.records;
        piggyback = s.piggyback;
        nacks = s.nacks + one_nack turn.packet.nack_term;
        piggybacks = s.piggybacks;
      };
      packet = turn.packet;
    }

-- a new piggyback takes the place of the old one
abbrev pub latest : Option Piggyback → Option Piggyback → Option Piggyback
latest None old = old
latest (Some again) old = Some again

abbrev pub one_piggyback : Option Piggyback → ℕ
one_piggyback None = 0
one_piggyback (Some again) = 1

-- node j's turn with the packet: what is newly committed is recorded to end at the first free slot; a node that holds the NACKed term
-- counts one piggyback and sets the next
unfoldable pub take_turn : Packet → ℕ → ℕ → Shared → Shared
take_turn packet slot j s =
    let turn : Participated = participant_turn j packet (state_of s.states j) in
    record {
      states = set s.states j turn.state;
      counter = s.counter;
      starts = s.starts;
      records = record_all s.starts slot turn.newly s.records;
      piggyback = latest turn.recovered s.piggyback;
      nacks = s.nacks;
      piggybacks = s.piggybacks + one_piggyback turn.recovered;
    }

-- nodes ascending, the first m; only those in the set `part` take part
unfoldable pub turns : Packet → ℕ → ℕ → ℕ → Shared → Shared
turns packet slot part zero s = s
turns packet slot part (suc m) s =
    let before : Shared = turns packet slot part m s in
    elim (has part m) [ true ↦ take_turn packet slot m before | false ↦ before ]

-- the old piggyback is cleared before the first node's turn
abbrev pub cleared : Shared → Shared
cleared s =
    record {
      states = s.states;
      counter = s.counter;
      starts = s.starts;
      records = s.records;
      piggyback = None;
      nacks = s.nacks;
      piggybacks = s.piggybacks;
    }

-- `process_round`: every node that took part has its turn, in the nodes' order
unfoldable pub process_round : ℕ → Packet → ℕ → ℕ → Shared → Shared
process_round n packet slot part s = turns packet slot part n (cleared s)

-- the least of `shortest` and the lengths of the first m logs
unfoldable pub shortest_from : ℕ → List State → ℕ → ℕ
shortest_from shortest states zero = shortest
shortest_from shortest states (suc m) = min (shortest_from shortest states m) (length (state_of states m).log)

-- the length of the shortest log of n nodes, which is the progress that a snapshot shows
abbrev pub shortest_log : List State → ℕ → ℕ
shortest_log states n = shortest_from (length (state_of states 0).log) states n

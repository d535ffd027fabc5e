-- The values that the code's structs and tables stand for, and what holds of them between turns.
use Rattle.std.specs.Prelude.{ℕ, ◌+◌, ◌≤◌, ◌<◌, ◌≡◌, Bool, cond, leb, List, [], ◌∷◌, ◌++◌, length, get_or, map, replicate, set, take, Option, Some, None}
use Rattle.config.specs.Limits.{max_nodes, max_terms, count_bound}
use Rattle.random.specs.Table.{tabulate}
use Rattle.network.specs.Graph.{has, count}
use Rattle.network.specs.declared.units.NodeId.{NodeId}
use Rattle.network.specs.declared.units.Slot.{Slot}
use Rattle.network.specs.declared.units.Term.{Term}
use Rattle.phy.specs.declared.packet.Packet.{Packet}
use Rattle.phy.specs.declared.packet.Piggyback.{Piggyback}
use Rattle.protocol.specs.declared.state.PaxosState.{PaxosState}
use Rattle.protocol.specs.Paxos.{State}
use Rattle.protocol.specs.View.{view, Kept, NoTerm, TermsBelow, back_below}
use Rattle.pipeline.specs.declared.records.History.{History}
use Rattle.pipeline.specs.declared.records.ProposalRecord.{ProposalRecord}
use Rattle.pipeline.specs.declared.records.Recorded.{Recorded}
use Rattle.pipeline.specs.declared.carry.Carry.{Carry}
use Rattle.pipeline.specs.declared.round.PreparedRound.{PreparedRound}
use Rattle.pipeline.specs.Round.{Record, Shared, recorded, record_all, latest, one_piggyback, prepare_round, take_turn, process_round}

-- ---- the history

-- the record that the code's struct stands for
abbrev pub record_of : ProposalRecord → Record
record_of r = record { id = r.id.0; start = r.start.0; end = r.end.0 }

abbrev pub no_record : ProposalRecord
no_record = record { id = record { 0 = 0 }; start = record { 0 = 0 }; end = record { 0 = 0 } }

abbrev pub no_start : Slot
no_start = record { 0 = 0 }

-- the history with nothing in it
abbrev pub no_history : History
no_history = record { starts = replicate max_terms no_start; records = replicate max_terms no_record }

-- by term the first slot of the round that proposed it
abbrev pub starts_of : History → List ℕ
starts_of t = map (λ (s : Slot). s.0) t.starts

abbrev pub record_at : History → ℕ → Record
record_at t k = record_of (get_or t.records k no_record)

-- the first m records
unfoldable pub records_of : ℕ → History → List Record
records_of m t = tabulate m (record_at t)

-- the set says which terms are recorded
pub record Recording (x : Recorded) (t : History) : Type 0 where
  pub few : x.count ≡ count max_terms (has x.terms)
  pub known : (k : ℕ) → k < max_terms → has x.terms k ≡ recorded k (records_of x.count t)

-- the terms of a list were recorded, each unless it was; the starts are what they were
pub record Records (end : ℕ) (ts : List ℕ) (x : Recorded) (t : History) (r : Recorded) (t' : History) : Type 0 where
  pub recording : Recording r t'
  pub records : records_of r.count t' ≡ record_all (starts_of t) end ts (records_of x.count t)
  pub starts : t'.starts ≡ t.starts

-- the history with the slot of a proposal, if one is made
abbrev pub with_start : Option Term → Slot → History → History
with_start None slot t = t
with_start (Some u) slot t = record { starts = set t.starts u.0 slot; records = t.records }

-- starts from the counter on are 0
pub record Started (c : ℕ) (t : History) : Type 0 where
  pub unused : (k : ℕ) → c ≤ k → get_or (starts_of t) k 0 ≡ 0

-- one start more, if a proposal is made; the records are what they were
pub record Starts (c : ℕ) (proposes : Bool) (slot : ℕ) (t t' : History) : Type 0 where
  pub started : Started (c + cond proposes 1 0) t'
  pub starts : take (c + cond proposes 1 0) (starts_of t') ≡ take c (starts_of t) ++ cond proposes (slot ∷ []) []
  pub records : t'.records ≡ t.records

-- ---- the table of states

-- what stands for a node outside a table
abbrev pub outside : PaxosState
outside = record { votes = []; «data» = []; log = []; pending = 0; logged = 0; last_accepted = None }

-- node j's struct
abbrev pub state_in : List PaxosState → ℕ → PaxosState
state_in b j = get_or b j outside

-- the states of the first n nodes
unfoldable pub states_of : ℕ → List PaxosState → List State
states_of n b = tabulate n (λ (j : ℕ). view (state_in b j))

-- the table has room for few nodes, for some, or for the most
abbrev pub few_nodes : ℕ
few_nodes = 4

abbrev pub some_nodes : ℕ
some_nodes = 12

-- for how many nodes the table of n nodes' states has room
abbrev pub table_size : ℕ → ℕ
table_size n = cond (leb n few_nodes) few_nodes (cond (leb n some_nodes) some_nodes max_nodes)

-- there is room for the nodes, and each is kept while the counter is c
pub record AllKept (c n : ℕ) (b : List PaxosState) : Type 0 where
  pub room : length b ≡ table_size n
  pub each : (j : ℕ) → j < n → Kept c (state_in b j)

-- the first n nodes have no term
abbrev pub NoTerms : ℕ → List PaxosState → Type 0
NoTerms n b = (j : ℕ) → j < n → NoTerm (state_in b j)

-- The tables before the first round of n nodes: no node has a term, and no proposal was made. What else stands in them is not looked at.
pub record Blank (n : ℕ) (b : List PaxosState) (t : History) : Type 0 where
  pub room : length b ≡ table_size n
  pub each : NoTerms n b
  pub started : Started 0 t

-- ---- what the rounds carry: x with the table b of states and the history t

unfoldable pub shared_of : ℕ → Carry → List PaxosState → History → Shared
shared_of n x b t =
    record {
      states = states_of n b;
      counter = x.counter;
      starts = take x.counter (starts_of t);
      records = records_of x.recorded.count t;
      piggyback = x.piggyback;
      nacks = x.nacks;
      piggybacks = x.piggybacks;
    }

-- What holds between the turns of n nodes.
pub record Sharing (n : ℕ) (x : Carry) (b : List PaxosState) (t : History) : Type 0 where
  pub few : x.counter ≤ max_terms
  pub kept : AllKept x.counter n b
  pub started : Started x.counter t
  pub recording : Recording x.recorded t
  pub back : back_below x.counter x.piggyback

-- node i of n may prepare a round
pub record MayPrepare (n proposals : ℕ) (i : NodeId) (x : Carry) (b : List PaxosState) (t : History) : Type 0 where
  pub sharing : Sharing n x b t
  pub nacks : x.nacks < count_bound
  pub initiator : i.0 < n
  pub two : 2 ≤ n
  pub nodes : n ≤ max_nodes
  pub most : proposals ≤ max_terms

-- The code's `prepare_round` came from x, b and t to r, b' and t': that of the definitions, and what held between the turns holds again.
-- The packet's terms are below the counter.
pub record Prepares (n proposals : ℕ) (i : NodeId) (slot : Slot) (x : Carry) (b : List PaxosState) (t : History) (r : PreparedRound) (b' : List PaxosState) (t' : History) : Type 0 where
  pub sharing : Sharing n r.carry b' t'
  pub nacks : r.carry.nacks ≤ x.nacks + 1
  pub piggybacks : r.carry.piggybacks ≡ x.piggybacks
  pub below : TermsBelow r.carry.counter r.packet
  pub shared : shared_of n r.carry b' t' ≡ (prepare_round n proposals i.0 slot.0 (shared_of n x b t)).shared
  pub packet : r.packet ≡ (prepare_round n proposals i.0 slot.0 (shared_of n x b t)).packet

-- the same with this piggyback, and so many counted
abbrev pub with_piggyback : Option Piggyback → ℕ → Carry → Carry
with_piggyback p m x = record { counter = x.counter; recorded = x.recorded; piggyback = p; nacks = x.nacks; piggybacks = m }

abbrev pub without_piggyback : Carry → Carry
without_piggyback x = with_piggyback None x.piggybacks x

-- a turn's piggyback, if there is one, in the place of that before it, and counted
abbrev pub replaced : Option Piggyback → Carry → Carry
replaced p x = with_piggyback (latest p x.piggyback) (x.piggybacks + one_piggyback p) x

-- node j may have its turn with the packet, among some number of nodes
pub record MayTake (packet : Packet) (j : NodeId) (x : Carry) (b : List PaxosState) (t : History) : Type 0 where
  pub n : ℕ
  pub sharing : Sharing n x b t
  pub node : j.0 < n
  pub nodes : n ≤ max_nodes
  pub piggybacks : x.piggybacks < count_bound
  pub below : TermsBelow x.counter packet

-- a turn of node j came from x, b and t to r, b' and t': that of the definitions
pub record TakesTurn (packet : Packet) (slot : Slot) (j : NodeId) (x : Carry) (b : List PaxosState) (t : History) (r : Carry) (b' : List PaxosState) (t' : History) : Type 0 where
  pub counter : r.counter ≡ x.counter
  pub nacks : r.nacks ≡ x.nacks
  pub piggybacks : r.piggybacks ≤ x.piggybacks + 1
  pub sharing : (n : ℕ) → j.0 < n → Sharing n x b t → Sharing n r b' t'
  pub shared : (n : ℕ) → j.0 < n → Sharing n x b t → shared_of n r b' t' ≡ take_turn packet slot.0 j.0 (shared_of n x b t)

-- n nodes may process a round
pub record MayProcess (n : ℕ) (packet : Packet) (x : Carry) (b : List PaxosState) (t : History) : Type 0 where
  pub sharing : Sharing n x b t
  pub piggybacks : x.piggybacks + max_nodes < count_bound
  pub nodes : n ≤ max_nodes
  pub below : TermsBelow x.counter packet

-- and `process_round` over n nodes
pub record Processes (n : ℕ) (packet : Packet) (slot : Slot) (part : ℕ) (x : Carry) (b : List PaxosState) (t : History) (r : Carry) (b' : List PaxosState) (t' : History) : Type 0 where
  pub counter : r.counter ≡ x.counter
  pub nacks : r.nacks ≡ x.nacks
  pub piggybacks : r.piggybacks ≤ x.piggybacks + n
  pub sharing : Sharing n r b' t'
  pub shared : shared_of n r b' t' ≡ process_round n packet slot.0 part (shared_of n x b t)

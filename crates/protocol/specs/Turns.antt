-- The two turns of a node (rules 5.9 and 5.10), each a function of the node's own state: what it does as the initiator of a round, and
-- what it does with the packet of a round that it took part in.
use Rattle.std.specs.Prelude.{ℕ, ◌+◌, ◌-◌, Bool, true, false, cond, List, eqb, Option, Some, None}
use Rattle.config.specs.Limits.{max_terms}
use Rattle.network.specs.declared.units.Term.{Term}
use Rattle.phy.specs.declared.packet.Piggyback.{Piggyback}
use Rattle.phy.specs.declared.packet.Packet.{Packet}
use Rattle.protocol.specs.Paxos.{Pending, State, union, vote, hold, hold_new, merge_votes_up_to, greatest_quorum, commit_to, newly_to, detect_gap, recovery}

-- ---- the initiator's turn. i is the initiator, n the number of nodes, c the counter before the turn, and b says
-- whether a proposal is left.

pub record Initiated : Type 0 where
  pub state : State
  pub packet : Packet
  pub newly : List ℕ

-- the counter after the turn
abbrev pub counter_after : Bool → ℕ → ℕ
counter_after true c = c + 1
counter_after false c = c

-- the new proposal pending with the initiator's vote
abbrev pub propose : Bool → ℕ → ℕ → State → State
propose true i c s = hold c (vote i) (Some (record { 0 = c })) s
propose false i c s = s

-- the same for the proposal that is made, or none
abbrev pub with_proposal : Option Term → ℕ → State → State
with_proposal None i s = s
with_proposal (Some t) i s = hold t.0 (vote i) (Some t) s

-- the current term: the new proposal's, else counter - 1 (0 at 0)
abbrev pub current_term_of : Bool → ℕ → ℕ
current_term_of true c = c
current_term_of false c = c - 1

abbrev pub proposal_data_of : Bool → ℕ → Option Term
proposal_data_of true c = Some (record { 0 = c })
proposal_data_of false c = None

-- the NACK for a gap: its term, where that is above 0
abbrev pub nack : Option Term → Option Term
nack None = None
nack (Some t) = cond (eqb t.0 0) None (Some t)

abbrev pub votes_of : Option Pending → ℕ
votes_of None = 0
votes_of (Some p) = p.votes

-- the greatest pending quorum
abbrev pub quorum_term : ℕ → State → Option Term
quorum_term n s = greatest_quorum max_terms n s

-- The packet that the initiator sends from its state s, for the current term t with the data d and the NACK g. Its flags
-- are the votes of the current term if that is still pending, and always the initiator's own.
abbrev pub packet_of : ℕ → ℕ → Option Term → Option Term → Option Piggyback → State → Packet
packet_of i t g d pb s =
    record {
      current_term = record { 0 = t };
      last_accepted_term = s.last;
      flags_bitmap = union (votes_of (s.pending t)) (vote i);
      nack_term = g;
      sender = record { 0 = i };
      proposal_data = d;
      piggyback = pb;
    }

-- With the proposal made: commit up to the greatest pending quorum, then build the packet.
unfoldable pub announce : ℕ → ℕ → ℕ → Option Term → Option Term → Option Piggyback → State → Initiated
announce i n t g d pb s =
    record {
      state = commit_to (quorum_term n s) s;
      packet = packet_of i t g d pb (commit_to (quorum_term n s) s);
      newly = newly_to (quorum_term n s) s.log;
    }

-- The gap below the counter, before the proposal; the proposal; the commit and the packet.
unfoldable pub initiator_turn : ℕ → ℕ → ℕ → Bool → Option Piggyback → State → Initiated
initiator_turn i n c b pb s =
    announce i n (current_term_of b c) (nack (detect_gap c s)) (proposal_data_of b c) pb (propose b i c s)

-- ---- a participant's turn, in the order of rule 5.10. i is the node, p the packet that it holds.

pub record Participated : Type 0 where
  pub state : State
  pub newly : List ℕ
  pub recovered : Option Piggyback

-- data becomes pending where there is any and t is neither logged nor pending
unfoldable pub take_data : ℕ → ℕ → Option Term → State → State
take_data t v None s = s
take_data t v (Some u) s = hold_new t v (Some u) s

-- a piggyback's data becomes pending where its term is neither logged nor pending
unfoldable pub take_piggyback : ℕ → Option Piggyback → State → State
take_piggyback v None s = s
take_piggyback v (Some again) s = hold_new again.term.0 v again.«data» s

-- Commit up to the packet's last accepted, if any; the proposal's data becomes pending, with the packet's flags; the
-- flags, then the own vote, go to every pending term up to the current one.
unfoldable pub take_votes : ℕ → Packet → State → State
take_votes i p s =
    merge_votes_up_to p.current_term.0 (vote i)
    (merge_votes_up_to p.current_term.0 p.flags_bitmap
    (take_data p.current_term.0 p.flags_bitmap p.proposal_data
    (commit_to p.last_accepted_term s)))

-- The piggyback comes after the votes, with the own vote alone; between them the node looks whether it holds the NACKed
-- term.
unfoldable pub participant_turn : ℕ → Packet → State → Participated
participant_turn i p s =
    record {
      state = take_piggyback (vote i) p.piggyback (take_votes i p s);
      newly = newly_to p.last_accepted_term s.log;
      recovered = recovery p.nack_term (take_votes i p s);
    }

-- The state that the code's struct stands for, and what holds of it between the turns.
use Rattle.std.specs.Prelude.{ℕ, ◌<◌, ◌≤◌, Bool, true, false, cond, List, [], ◌∷◌, ◌≡◌, get_or, replicate, Option, Some, None}
use Rattle.std.specs.Int.Count.{ones}
use Rattle.config.specs.Limits.{set_bits, max_terms}
use Rattle.network.specs.Graph.{has}
use Rattle.random.specs.Table.{tabulate}
use Rattle.network.specs.declared.units.Term.{Term}
use Rattle.phy.specs.declared.packet.Piggyback.{Piggyback}
use Rattle.phy.specs.declared.packet.Packet.{Packet}
use Rattle.protocol.specs.declared.state.PaxosState.{PaxosState}
use Rattle.protocol.specs.declared.turns.Announced.{Announced}
use Rattle.protocol.specs.declared.turns.Participation.{Participation}
use Rattle.protocol.specs.Paxos.{LogEntry, Pending, State, logged, held, commit_to, newly_to, term_set}
use Rattle.protocol.specs.Turns.{Initiated, counter_after, initiator_turn, participant_turn}

abbrev pub term_of : ℕ → Term
term_of t = record { 0 = t }

-- the struct with nothing in it
abbrev pub no_terms : PaxosState
no_terms =
    record {
      votes = replicate max_terms 0;
      «data» = replicate max_terms None;
      log = replicate max_terms (term_of 0);
      pending = 0;
      logged = 0;
      last_accepted = None;
    }

abbrev pub votes_at : PaxosState → ℕ → ℕ
votes_at s t = get_or s.votes t 0

abbrev pub data_at : PaxosState → ℕ → Option Term
data_at s t = get_or s.«data» t None

-- term k of the log
abbrev pub term_at : PaxosState → ℕ → ℕ
term_at s k = (get_or s.log k (term_of 0)).0

abbrev pub entry_at : PaxosState → ℕ → LogEntry
entry_at s k = record { term = term_at s k; «data» = data_at s (term_at s k) }

-- as many terms as are in the set of logged ones
unfoldable pub log_of : PaxosState → List LogEntry
log_of s = tabulate (ones s.logged) (entry_at s)

unfoldable pub pending_of : PaxosState → ℕ → Option Pending
pending_of s t = cond (has s.pending t) (Some (record { votes = votes_at s t; «data» = data_at s t })) None

-- the state that the struct stands for
abbrev pub view : PaxosState → State
view s = record { log = log_of s; pending = pending_of s; last = s.last_accepted }

-- no log repeats a term
unfoldable pub Distinct : List LogEntry → Type 0
Distinct [] = Unit {0}
Distinct (e ∷ l) = (logged e.term l ≡ false) × Distinct l

abbrev pub last_below : ℕ → Option Term → Type 0
last_below c None = Unit {0}
last_below c (Some u) = u.0 < c

-- data that has a number
abbrev pub data_below : Option Term → Type 0
data_below None = Unit {0}
data_below (Some u) = u.0 < max_terms

-- What holds of a node's state while the counter is c.
pub record Kept (c : ℕ) (s : PaxosState) : Type 0 where
  pub room : c ≤ max_terms
  -- terms are below the counter
  pub pending_below : (t : ℕ) → c ≤ t → has s.pending t ≡ false
  pub logged_below : (t : ℕ) → c ≤ t → has s.logged t ≡ false
  pub last_below : last_below c s.last_accepted
  -- and their data has a number
  pub pending_data : (t : ℕ) → has s.pending t ≡ true → data_below (data_at s t)
  pub logged_data : (t : ℕ) → has s.logged t ≡ true → data_below (data_at s t)
  -- no term is both logged and pending
  pub apart : (t : ℕ) → has s.logged t ≡ true → has s.pending t ≡ false
  -- the log holds the terms of its set, each once
  pub logged_is : (t : ℕ) → logged t (log_of s) ≡ has s.logged t
  pub distinct : Distinct (log_of s)

-- The node has no term: none pending, none logged, none accepted. Its other fields are then not looked at.
pub record NoTerm (s : PaxosState) : Type 0 where
  pub pending : s.pending ≡ 0
  pub logged : s.logged ≡ 0
  pub last : s.last_accepted ≡ None

-- the node's state s' is x, and what held of s holds again, whatever the counter c is that P allows
pub record Next (P : ℕ → Type 0) (s s' : PaxosState) (x : State) : Type 0 where
  pub kept : (c : ℕ) → P c → Kept c s → Kept c s'
  pub is : view s' ≡ x

-- the same where the state is what f makes of the one before
abbrev pub Step : (ℕ → Type 0) → (State → State) → PaxosState → PaxosState → Type 0
Step P f s s' = Next P s s' (f (view s))

-- a commit up to a term, or none, and the set of what it newly commits
pub record Commits (last : Option Term) (s s' : PaxosState) (set : ℕ) : Type 0 where
  pub next : Step (λ c. last_below c last) (commit_to last) s s'
  pub newly : set ≡ term_set (newly_to last (log_of s))

-- a term below the counter, and data that has a number
abbrev pub term_below : ℕ → ℕ → Option Term → Type 0
term_below c t d = (t < c) × data_below d

-- a proposal's term is below the counter
abbrev pub proposal_below : ℕ → ℕ → Option Term → Type 0
proposal_below c t None = Unit {0}
proposal_below c t (Some u) = term_below c t (Some u)

abbrev pub back_below : ℕ → Option Piggyback → Type 0
back_below c None = Unit {0}
back_below c (Some again) = term_below c again.term.0 again.«data»

-- a term that the node doesn't hold, and data that has a number: it may become pending
pub record MayHold (s : PaxosState) (t : ℕ) (d : Option Term) : Type 0 where
  pub kept : Kept max_terms s
  pub term : t < max_terms
  pub «data» : data_below d
  pub free : held t (view s) ≡ false

-- a new proposal, if there is one, may become pending
abbrev pub may_propose : Option Term → PaxosState → Type 0
may_propose None s = Unit {0}
may_propose (Some t) s = MayHold s t.0 (Some t)

-- the terms of a packet are below the counter c
pub record TermsBelow (c : ℕ) (p : Packet) : Type 0 where
  pub last : last_below c p.last_accepted_term
  pub proposal : proposal_below c p.current_term.0 p.proposal_data
  pub back : back_below c p.piggyback

-- ---- what the turns give

-- the commit and the packet of the initiator's turn are those that f makes of the state
pub record Announces (f : State → Initiated) (s : PaxosState) (r : Announced) (s' : PaxosState) : Type 0 where
  pub next : Step (λ c. Unit {0}) (λ x. (f x).state) s s'
  pub packet : r.packet ≡ (f (view s)).packet
  pub newly : r.newly ≡ term_set (f (view s)).newly

-- node i of n may have the initiator's turn while the counter is c; p says whether a proposal is left
pub record MayInitiate (i n c : ℕ) (p : Bool) (s : PaxosState) : Type 0 where
  pub kept : Kept c s
  pub few : counter_after p c ≤ max_terms
  pub node : i < set_bits
  pub nodes : 2 ≤ n

-- The initiator's turn is that of the definitions, and the counter is then `counter_after p c`. The packet's terms are below it if that of the
-- piggyback that was handed in is below c.
pub record Initiates (i n c : ℕ) (p : Bool) (pb : Option Piggyback) (s : PaxosState) (r : Announced) (s' : PaxosState) : Type 0 where
  pub kept : Kept (counter_after p c) s'
  pub state : view s' ≡ (initiator_turn i n c p pb (view s)).state
  pub packet : r.packet ≡ (initiator_turn i n c p pb (view s)).packet
  pub newly : r.newly ≡ term_set (initiator_turn i n c p pb (view s)).newly
  pub below : back_below c pb → TermsBelow (counter_after p c) r.packet

-- A participant's turn is that of the definitions, and its state is kept whatever the counter is that the packet's terms are below.
pub record Takes (i : ℕ) (p : Packet) (s : PaxosState) (r : Participation) (s' : PaxosState) : Type 0 where
  pub kept : (c : ℕ) → TermsBelow c p → Kept c s → Kept c s'
  pub state : view s' ≡ (participant_turn i p (view s)).state
  pub newly : r.newly ≡ term_set (participant_turn i p (view s)).newly
  pub recovered : r.recovery ≡ (participant_turn i p (view s)).recovered
  pub back : (c : ℕ) → TermsBelow c p → Kept c s → back_below c r.recovery

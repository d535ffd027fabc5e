-- How a state changes in a turn, and what it means that terms carry their own data.
use Rattle.std.specs.Prelude.{ℕ, ◌/◌, ◌%◌, ◌^◌, ◌<◌, ◌≤◌, true, List, [], ◌∷◌, ◌++◌, ◌⊎◌, ◌≡◌, Option, Some, None}
use Rattle.config.specs.Limits.{set_bits}
use Rattle.network.specs.declared.units.Term.{Term}
use Rattle.phy.specs.declared.packet.Piggyback.{Piggyback}
use Rattle.phy.specs.declared.packet.Packet.{Packet}
use Rattle.protocol.specs.Paxos.{LogEntry, Pending, State, logged}
use Rattle.protocol.specs.View.{Distinct}

-- m begins with l: nothing of l is removed or reordered
abbrev pub Extends : List LogEntry → List LogEntry → Type 0
Extends l m = (d : List LogEntry) × (m ≡ l ++ d)

-- the same of lists of anything: m begins with l
abbrev pub Continues : {A : Type 0} → List A → List A → Type 0
Continues {A} l m = (d : List A) × (m ≡ l ++ d)

-- last accepted doesn't fall
abbrev pub Rises : Option Term → Option Term → Type 0
Rises None l = Unit {0}
Rises (Some u) None = ⊥
Rises (Some u) (Some v) = u.0 ≤ v.0

-- each node that is in a is in b
abbrev pub Subset : ℕ → ℕ → Type 0
Subset a b = (i : ℕ) → i < set_bits → a / 2 ^ i % 2 ≤ b / 2 ^ i % 2

-- t is pending in s with the data of p and with all its votes, or it is logged and pending no more
abbrev pub StaysPending : ℕ → Pending → State → Type 0
StaysPending t p s =
    ((q : Pending) × (s.pending t ≡ Some q) × Subset p.votes q.votes × (q.«data» ≡ p.«data»)) ⊎
    ((logged t s.log ≡ true) × (s.pending t ≡ None))

-- no log repeats a term, and no term is both logged and pending
pub record Apart (s : State) : Type 0 where
  pub distinct : Distinct s.log
  pub apart : (t : ℕ) → logged t s.log ≡ true → s.pending t ≡ None

-- ---- own data

-- the data of term t
abbrev pub data_for : ℕ → Option Term
data_for t = Some (record { 0 = t })

abbrev pub own_pending : ℕ → Option Pending → Type 0
own_pending t None = Unit {0}
own_pending t (Some p) = p.«data» ≡ data_for t

unfoldable pub own_log : List LogEntry → Type 0
own_log [] = Unit {0}
own_log (e ∷ l) = (e.«data» ≡ data_for e.term) × own_log l

-- every logged or pending term carries its own data
pub record Own (s : State) : Type 0 where
  pub log : own_log s.log
  pub pending : (t : ℕ) → own_pending t (s.pending t)

abbrev pub own_data : ℕ → Option Term → Type 0
own_data t None = Unit {0}
own_data t (Some u) = u.0 ≡ t

abbrev pub own_back : Option Piggyback → Type 0
own_back None = Unit {0}
own_back (Some again) = again.«data» ≡ data_for again.term.0

-- a packet's data are those of their terms
pub record OwnPacket (p : Packet) : Type 0 where
  pub proposal : own_data p.current_term.0 p.proposal_data
  pub back : own_back p.piggyback

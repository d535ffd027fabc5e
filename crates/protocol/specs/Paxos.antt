-- A node's Paxos state and what is done with it (rules 5.1, 5.2 and 5.4 to 5.8). A term is its number.
-- A set of nodes is a number: bit i, which is `s / 2 ^ i % 2`, says whether node i is in it.
use Rattle.std.specs.Prelude.{ℕ, zero, suc, ◌+◌, ◌-◌, ◌*◌, ◌/◌, ◌%◌, ◌^◌, max, Bool, true, false, cond, ◌||◌, List, [], ◌∷◌, ◌++◌, leb, eqb, Option, Some, None}
use Rattle.std.specs.Int.Count.{ones_in}
use Rattle.config.specs.Limits.{set_bits}
use Rattle.network.specs.declared.units.Term.{Term}
use Rattle.phy.specs.declared.packet.Piggyback.{Piggyback}

-- A logged proposal.
pub record LogEntry : Type 0 where
  pub term : ℕ
  pub «data» : Option Term

-- A pending proposal: the set of nodes that voted for it, and its data.
pub record Pending : Type 0 where
  pub votes : ℕ
  pub «data» : Option Term

-- A node's state: the log in commit order, the pending terms, and the last accepted term or none.
pub record State : Type 0 where
  pub log : List LogEntry
  pub pending : ℕ → Option Pending
  pub last : Option Term

-- nothing logged, pending or accepted
abbrev pub empty : State
empty = record { log = []; pending = λ t. None; last = None }

-- ---- sets of nodes, as numbers

-- the union, of the lowest k bits
unfoldable pub union_in : ℕ → ℕ → ℕ → ℕ
union_in zero a b = 0
union_in (suc k) a b = union_in k (a / 2) (b / 2) * 2 + max (a % 2) (b % 2)

unfoldable pub union : ℕ → ℕ → ℕ
unfolding union_in
union a b = union_in set_bits a b

-- how many nodes are in a set
unfoldable pub size : ℕ → ℕ
unfolding ones_in
size a = ones_in set_bits a

-- the set of node i alone
abbrev pub vote : ℕ → ℕ
vote i = 2 ^ i

-- Majority: floor(n/2) + 1.
abbrev pub majority : ℕ → ℕ
majority n = n / 2 + 1

-- ---- what a node holds

unfoldable pub logged : ℕ → List LogEntry → Bool
logged t [] = false
logged t (e ∷ l) = eqb t e.term || logged t l

abbrev pub is_some : Option Pending → Bool
is_some None = false
is_some (Some p) = true

-- t is logged or pending
abbrev pub held : ℕ → State → Bool
held t s = logged t s.log || is_some (s.pending t)

-- the map with p in the place of t
abbrev pub updated : ℕ → Option Pending → (ℕ → Option Pending) → ℕ → Option Pending
updated t p m k = cond (eqb k t) p (m k)

-- t becomes pending, with the votes v and the data d
unfoldable pub hold : ℕ → ℕ → Option Term → State → State
hold t v d s =
    record {
      log = s.log;
      pending = updated t (Some (record { votes = v; «data» = d })) s.pending;
      last = s.last;
    }

-- t becomes pending, with the votes v and the data d, unless it is logged or pending already
unfoldable pub hold_new : ℕ → ℕ → Option Term → State → State
hold_new t v d s = cond (held t s) s (hold t v d s)

-- ---- votes

-- the nodes of f vote too, where b says so
abbrev pub voted : Bool → ℕ → Option Pending → Option Pending
voted b f None = None
voted true f (Some p) = Some (record { votes = union p.votes f; «data» = p.«data» })
voted false f (Some p) = Some p

-- `merge_votes_up_to`: the votes f go to every pending term up to u
unfoldable pub merge_votes_up_to : ℕ → ℕ → State → State
merge_votes_up_to u f s =
    record { log = s.log; pending = λ t. voted (leb t u) f (s.pending t); last = s.last }

-- a majority of n nodes voted for a pending term
abbrev pub quorum : ℕ → Option Pending → Bool
quorum n None = false
quorum n (Some p) = leb (majority n) (size p.votes)

-- the greatest pending term below k with a quorum, or none
unfoldable pub greatest_quorum : ℕ → ℕ → State → Option Term
greatest_quorum zero n s = None
greatest_quorum (suc k) n s =
    cond (quorum n (s.pending k)) (Some (record { 0 = k })) (greatest_quorum k n s)

-- ---- commits

-- last accepted + 1, 0 if none
abbrev pub after_last : Option Term → ℕ
after_last None = 0
after_last (Some u) = u.0 + 1

-- last accepted rises to t
abbrev pub raise : ℕ → Option Term → Option Term
raise t None = Some (record { 0 = t })
raise t (Some u) = Some (record { 0 = max u.0 t })

-- what enters the log for t: its data if pending, else nothing
abbrev pub log_entry : ℕ → Option Pending → List LogEntry
log_entry t None = []
log_entry t (Some p) = record { term = t; «data» = p.«data» } ∷ []

-- `commit_term`: a term that is not logged enters the log only if pending, yet last accepted rises to it anyway
unfoldable pub commit_term : ℕ → State → State
commit_term t s =
    cond (logged t s.log) s
    (record {
      log = s.log ++ log_entry t (s.pending t);
      pending = updated t None s.pending;
      last = raise t s.last;
    })

-- each term below k in turn
unfoldable pub commit_below : ℕ → State → State
commit_below zero s = s
commit_below (suc k) s = commit_term k (commit_below k s)

-- `commit_up_to`
abbrev pub commit_up_to : ℕ → State → State
commit_up_to u s = commit_below (suc u) s

-- each t below k not logged, ascending
unfoldable pub newly_below : ℕ → List LogEntry → List ℕ
newly_below zero l = []
newly_below (suc k) l = newly_below k l ++ cond (logged k l) [] (k ∷ [])

-- what `commit_up_to` answers: each t from 0 to u not logged is newly committed
abbrev pub newly_up_to : ℕ → List LogEntry → List ℕ
newly_up_to u l = newly_below (suc u) l

-- terms as a set: bit t stands for term t
unfoldable pub term_set : List ℕ → ℕ
term_set [] = 0
term_set (t ∷ l) = 2 ^ t + term_set l

-- a commit up to a term, or none at all
unfoldable pub commit_to : Option Term → State → State
commit_to None s = s
commit_to (Some u) s = commit_up_to u.0 s

unfoldable pub newly_to : Option Term → List LogEntry → List ℕ
newly_to None l = []
newly_to (Some u) l = newly_up_to u.0 l

-- ---- gaps

-- the least of the k terms from t on that is neither logged nor pending
unfoldable pub gap_in : ℕ → ℕ → State → Option Term
gap_in zero t s = None
gap_in (suc k) t s = cond (held t s) (gap_in k (suc t) s) (Some (record { 0 = t }))

-- `detect_gap`: least t from last accepted + 1 below c neither logged nor pending
unfoldable pub detect_gap : ℕ → State → Option Term
detect_gap c s = gap_in (c - after_last s.last) (after_last s.last) s

-- ---- recovery

-- the data of t in a log, or none
unfoldable pub find : ℕ → List LogEntry → Option (Option Term)
find t [] = None
find t (e ∷ l) = cond (eqb t e.term) (Some e.«data») (find t l)

-- the data of t, in the log first
abbrev pub data_in : Option (Option Term) → Option Pending → Option (Option Term)
data_in (Some d) p = Some d
data_in None None = None
data_in None (Some p) = Some p.«data»

-- a piggyback of t, or none if its data is not there
abbrev pub reply : ℕ → Option (Option Term) → Option Piggyback
reply t None = None
reply t (Some d) = Some (record { term = record { 0 = t }; «data» = d })

-- a NACKed term with its data, if the node holds it
unfoldable pub recovery : Option Term → State → Option Piggyback
recovery None s = None
recovery (Some t) s = reply t.0 (data_in (find t.0 s.log) (s.pending t.0))

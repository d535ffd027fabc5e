-- One slot of a flood (rules 4.5 to 4.8). The nodes of a round are a list of n records.
use Rattle.std.specs.Prelude.{ℕ, zero, suc, ◌+◌, ◌^◌, Bool, true, false, cond, ◌&&◌, List, [], ◌∷◌, ◌++◌, leb, get_or, set}
use Rattle.random.specs.Table.{tabulate}
use Rattle.network.specs.Graph.{has, linked, count}
use Rattle.phy.specs.declared.node.Node.{Node}
use Rattle.phy.specs.Node.{new, tick, transition, is_listening, is_flooding, is_sleeping}

-- What a round is given: the rows of the graph and its number of nodes, the repeats, the snapshot interval, the progress that snapshots
-- show, and the receptions of the run: whether an attempt is heard, by its number.
pub record Setup : Type 0 where
  pub rows : List ℕ
  pub nodes : ℕ
  pub repeats : ℕ
  pub interval : ℕ
  pub progress : ℕ
  pub heard : ℕ → Bool

-- node j of a list
abbrev pub at : List Node → ℕ → Node
at nodes j = get_or nodes j new

-- the list with the record of node i altered, and no other
abbrev pub altered : (Node → Node) → ℕ → List Node → List Node
altered f i nodes = set nodes i (f (at nodes i))

-- how many of the first n nodes are so
abbrev pub how_many : (Node → Bool) → List Node → ℕ → ℕ
how_many p nodes n = count n (λ (j : ℕ). p (at nodes j))

-- the sum over the first n nodes
unfoldable pub sum_of : (Node → ℕ) → List Node → ℕ → ℕ
sum_of f nodes zero = 0
sum_of f nodes (suc n) = sum_of f nodes n + f (at nodes n)

-- the numbers below n that are so, ascending
unfoldable pub among : ℕ → (ℕ → Bool) → List ℕ
among zero f = []
among (suc n) f = among n f ++ cond (f n) (n ∷ []) []

-- The receivers of a slot's attempts, in order: each flooding node of the first m, ascending, tries each of its listening neighbours
-- among all n, ascending.
unfoldable pub receivers : List ℕ → (ℕ → Bool) → (ℕ → Bool) → ℕ → ℕ → List ℕ
receivers rows floods listens n zero = []
receivers rows floods listens n (suc m) =
    receivers rows floods listens n m ++ cond (floods m) (among n (λ (j : ℕ). linked rows m j && listens j)) []

-- attempts and successes of the run so far, and the set of nodes that heard in this slot
pub record Tries : Type 0 where
  pub attempts : ℕ
  pub successes : ℕ
  pub reached : ℕ

-- the set with node j
unfoldable pub insert : ℕ → ℕ → ℕ
insert j s = cond (has s j) s (s + 2 ^ j)

-- one attempt at a receiver, which may have heard already
abbrev pub attempt_by : Bool → Tries → ℕ → Tries
attempt_by true t j = record { attempts = t.attempts + 1; successes = t.successes + 1; reached = insert j t.reached }
attempt_by false t j = record { attempts = t.attempts + 1; successes = t.successes; reached = t.reached }

-- one attempt, to node j; whether it is heard goes by its number among the run's attempts
unfoldable pub attempt : (ℕ → Bool) → Tries → ℕ → Tries
attempt heard t j = attempt_by (heard t.attempts) t j

-- attempts to these nodes, one after the other
unfoldable pub attempt_all : (ℕ → Bool) → Tries → List ℕ → Tries
attempt_all heard t [] = t
attempt_all heard t (j ∷ js) = attempt_all heard (attempt heard t j) js

-- the slot of the next snapshot, and the snapshots taken in order, each as its five numbers
pub record Shots : Type 0 where
  pub next : ℕ
  pub taken : List (List ℕ)

-- one is taken, and the next moves by the interval
unfoldable pub take_one : ℕ → (ℕ → List ℕ) → Shots → Shots
take_one interval shot x = record { next = x.next + interval; taken = x.taken ++ (shot x.next ∷ []) }

-- while the next snapshot slot is at most this slot, one is taken; at most `most` of them
unfoldable pub take_while : ℕ → (ℕ → List ℕ) → ℕ → ℕ → Shots → Shots
take_while interval shot slot zero x = x
take_while interval shot slot (suc most) x =
    elim (leb x.next slot) [ true ↦ take_while interval shot slot most (take_one interval shot x) | false ↦ x ]

-- where a run stands in its floods: the nodes, the run's attempts and successes, the slot, and the snapshots
pub record Standing : Type 0 where
  pub nodes : List Node
  pub attempts : ℕ
  pub successes : ℕ
  pub slot : ℕ
  pub shots : Shots

-- every node counts its state
unfoldable pub ticked : ℕ → List Node → List Node
ticked n nodes = tabulate n (λ (j : ℕ). tick (at nodes j))

-- the snapshot of a slot: slot, progress, listening, flooding, sleeping
unfoldable pub snapshot : ℕ → ℕ → List Node → ℕ → List ℕ
snapshot n progress nodes slot =
    slot ∷ progress ∷ how_many is_listening nodes n ∷ how_many is_flooding nodes n ∷ how_many is_sleeping nodes n ∷ []

-- the attempts of a slot, on top of those before it
unfoldable pub tries_in : Setup → List Node → ℕ → ℕ → Tries
tries_in g nodes attempts successes =
    attempt_all g.heard (record { attempts = attempts; successes = successes; reached = 0 })
    (receivers g.rows (λ (j : ℕ). is_flooding (at nodes j)) (λ (j : ℕ). is_listening (at nodes j)) g.nodes g.nodes)

-- flooders lose one repeat and sleep at 0, listeners that heard flood with full repeats
unfoldable pub moved : ℕ → ℕ → ℕ → List Node → List Node
moved n repeats reached nodes = tabulate n (λ (j : ℕ). transition repeats (has reached j) (at nodes j))

-- One slot: every node counts its state; snapshots; attempts; transitions. At an interval of at least 1 no more than slot + 1
-- snapshots are due.
unfoldable pub slot_step : Setup → Standing → Standing
slot_step g s =
    let nodes : List Node = ticked g.nodes s.nodes in
    let tries : Tries = tries_in g nodes s.attempts s.successes in
    record {
      nodes = moved g.nodes g.repeats tries.reached nodes;
      attempts = tries.attempts;
      successes = tries.successes;
      slot = s.slot + 1;
      shots = take_while g.interval (snapshot g.nodes g.progress nodes) s.slot (suc s.slot) s.shots;
    }

-- What a slot changes of a node, and what it leaves. Assumes nothing.
use Prim.Native.Nat.{ℕ, zero, suc, ◌+◌, ◌^◌, ◌<◌}
use mathlib.Core.Path.{◌≡◌, refl, sym, ap, ap₂, ◌∙◌}
use mathlib.Core.Bool.{Bool, true, false, cond}
use mathlib.Core.List.{List}
use native.Mathlib.Nat.{add_comm, add-zero, one-mul}
use native.Mathlib.Omega.{arith}
use lib.Count.{ones, ones_cat}
use lib.Dec.{eqb}
use lib.ListN.{length, length-set}
use lib.Seq.{get_or-set_same, get_or-set_other}
use Rattle.network.specs.Graph.{has, set_of, count}
use Rattle.network.proofs.Sets.{set_of_lt}
use Rattle.random.proofs.Tables.{get_d_tabulate}
use Rattle.phy.specs.declared.node.Node.{Node}
use Rattle.phy.specs.declared.node.NodeState.{NodeState}
use Rattle.phy.specs.declared.node.NodeState.TheVariants.{Listen, Flood, Sleep}
use Rattle.phy.specs.declared.packet.Packet.{Packet}
use Rattle.phy.specs.Node.{new, holding, begun_by, delivered_to, tick, tick_in, transition, transition_in, total, listens, floods, sleeps, is_listening, is_flooding, is_sleeping}
use Rattle.phy.specs.Slot.{at, altered, how_many, ticked, moved}
use Rattle.phy.specs.Round.{begun, delivered}

-- ---- one node

tick_state : (v : Node) → (tick v).state ≡ v.state
unfolding tick
tick_state v = go v.state
  where
    go : (s : NodeState) → (tick_in s v).state ≡ v.state
    go Listen = refl
    go Flood = refl
    go Sleep = refl

-- a slot, by the node's state before it
pub onward_is : (r : ℕ) (heard : Bool) (v : Node) (s : NodeState) → v.state ≡ s → transition r heard (tick v) ≡ transition_in s r heard (tick_in s v)
unfolding transition tick
onward_is r heard v s e =
    ap (λ (x : NodeState). transition_in x r heard (tick v)) (tick_state v ∙ e) ∙ ap (λ (x : NodeState). transition_in s r heard (tick_in x v)) e

pub tick_total : (v : Node) → total (tick v) ≡ total v + 1
unfolding tick
tick_total v = go v.state
  where
    go : (s : NodeState) → total (tick_in s v) ≡ total v + 1
    go Listen = omega arith
    go Flood = omega arith
    go Sleep = omega arith

pub transition_total : (repeats : ℕ) (heard : Bool) (v : Node) → total (transition repeats heard v) ≡ total v
unfolding transition
transition_total repeats heard v = go v.state heard
  where
    go : (s : NodeState) (h : Bool) → total (transition_in s repeats h v) ≡ total v
    go Listen true = refl
    go Listen false = refl
    go Flood h = refl
    go Sleep h = refl

pub delivered_state : (packet : Packet) (v : Node) → (delivered_to packet v).state ≡ v.state
delivered_state packet v = go (is_sleeping v)
  where
    go : (b : Bool) → (cond b (holding packet v) v).state ≡ v.state
    go true = refl
    go false = refl

-- ---- one node of all

pub altered_at : (f : Node → Node) (i : ℕ) (nodes : List Node) → i < length nodes → at (altered f i nodes) i ≡ f (at nodes i)
altered_at f i nodes h = get_or-set_same nodes i (f (at nodes i)) new h

-- every other record is what it was
pub altered_other : (f : Node → Node) (i : ℕ) (nodes : List Node) (j : ℕ) → (j ≡ i → ⊥) → at (altered f i nodes) j ≡ at nodes j
altered_other f i nodes j h = get_or-set_other nodes i j (f (at nodes i)) new h

pub altered_length : (f : Node → Node) (i : ℕ) (nodes : List Node) → length (altered f i nodes) ≡ length nodes
altered_length f i nodes = length-set nodes i (f (at nodes i))

-- ---- all nodes

pub at_ticked : (n : ℕ) (nodes : List Node) (j : ℕ) → j < n → at (ticked n nodes) j ≡ tick (at nodes j)
unfolding ticked
at_ticked n nodes j h = get_d_tabulate n (λ (k : ℕ). tick (at nodes k)) j new h

pub at_moved : (n repeats reached : ℕ) (nodes : List Node) (j : ℕ) → j < n → at (moved n repeats reached nodes) j ≡ transition repeats (has reached j) (at nodes j)
unfolding moved
at_moved n repeats reached nodes j h = get_d_tabulate n (λ (k : ℕ). transition repeats (has reached k) (at nodes k)) j new h

pub state_ticked : (n : ℕ) (nodes : List Node) (j : ℕ) → j < n → (at (ticked n nodes) j).state ≡ (at nodes j).state
state_ticked n nodes j h = ap (λ (v : Node). v.state) (at_ticked n nodes j h) ∙ tick_state (at nodes j)

pub total_slot : (n repeats reached : ℕ) (nodes : List Node) (j : ℕ) → j < n → total (at (moved n repeats reached (ticked n nodes)) j) ≡ total (at nodes j) + 1
total_slot n repeats reached nodes j h =
    ap total (at_moved n repeats reached (ticked n nodes) j h ∙ ap (transition repeats (has reached j)) (at_ticked n nodes j h))
    ∙ transition_total repeats (has reached j) (tick (at nodes j))
    ∙ tick_total (at nodes j)

pub total_begun : (n repeats initiator : ℕ) (packet : Packet) (nodes : List Node) (j : ℕ) → j < n → total (at (begun n repeats initiator packet nodes) j) ≡ total (at nodes j)
unfolding begun
total_begun n repeats initiator packet nodes j h =
    ap total (get_d_tabulate n (λ (k : ℕ). begun_by (eqb k initiator) packet repeats (at nodes k)) j new h) ∙ go (eqb j initiator)
  where
    go : (b : Bool) → total (begun_by b packet repeats (at nodes j)) ≡ total (at nodes j)
    go true = refl
    go false = refl

pub total_delivered : (n : ℕ) (packet : Packet) (nodes : List Node) (j : ℕ) → j < n → total (at (delivered n packet nodes) j) ≡ total (at nodes j)
unfolding delivered
total_delivered n packet nodes j h = ap total (get_d_tabulate n (λ (k : ℕ). delivered_to packet (at nodes k)) j new h) ∙ go (is_sleeping (at nodes j))
  where
    go : (b : Bool) → total (cond b (holding packet (at nodes j)) (at nodes j)) ≡ total (at nodes j)
    go true = refl
    go false = refl

-- ---- counts

pub count_cong : (n : ℕ) (f g : ℕ → Bool) → ((j : ℕ) → j < n → f j ≡ g j) → count n f ≡ count n g
unfolding count
count_cong zero f g h = refl
count_cong (suc n) f g h = ap₂ (λ (k : ℕ) (b : Bool). k + cond b 1 0) (count_cong n f g (λ j b. h j (omega arith))) (h n (omega arith))

-- the bits of a set are its nodes
pub ones_set_of : (n : ℕ) (f : ℕ → Bool) → ones (set_of n f) ≡ count n f
unfolding set_of count ones
ones_set_of zero f = refl
ones_set_of (suc n) f = go (ones_set_of n f) (f n)
  where
    go : ones (set_of n f) ≡ count n f → (b : Bool) → ones (set_of n f + cond b (2 ^ n) 0) ≡ count n f + cond b 1 0
    go e true =
        ap ones (add_comm (set_of n f) (2 ^ n) ∙ ap (λ (x : ℕ). x + set_of n f) (sym (one-mul (2 ^ n))))
        ∙ ones_cat n 1 (set_of n f) (set_of_lt n f)
        ∙ add_comm 1 (ones (set_of n f))
        ∙ ap (λ (x : ℕ). x + 1) e
    go e false = ap ones (add-zero (set_of n f)) ∙ e ∙ sym (add-zero (count n f))

-- each node is in one of the three states
pub three_states : (n : ℕ) (nodes : List Node) → how_many is_listening nodes n + how_many is_flooding nodes n + how_many is_sleeping nodes n ≡ n
unfolding count
three_states zero nodes = refl
three_states (suc n) nodes = omega (arith, three_states n nodes, one (at nodes n).state)
  where
    one : (s : NodeState) → cond (listens s) 1 0 + cond (floods s) 1 0 + cond (sleeps s) 1 0 ≡ 1
    one Listen = refl
    one Flood = refl
    one Sleep = refl

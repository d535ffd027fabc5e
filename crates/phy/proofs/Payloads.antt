-- What the nodes hold after a round: those that took part this round's packet, every other node what it held before. Assumes nothing.
use Rattle.std.specs.Prelude.{Some}
use Prim.Native.Nat.{ℕ, ◌<◌}
use mathlib.Core.Path.{◌≡◌, refl, sym, ap, ◌∙◌}
use mathlib.Core.Bool.{Bool, true, false, cond, ◌||◌}
use lib.Dec.{eqb}
use borrow.Author.Tests.{eq-eqb}
use Rattle.network.specs.Graph.{has}
use Rattle.network.proofs.Sets.{never, has_set_of}
use Rattle.random.proofs.Tables.{get_d_tabulate}
use Rattle.phy.specs.declared.node.Node.{Node}
use Rattle.phy.specs.declared.node.NodeState.{NodeState}
use Rattle.phy.specs.declared.node.NodeState.TheVariants.{Listen, Flood, Sleep}
use Rattle.phy.specs.declared.packet.Packet.{Packet}
use Rattle.phy.specs.Node.{new, tick, tick_in, transition, transition_in, holding, begun_by, delivered_to, sleeps, is_sleeping}
use Rattle.phy.specs.Slot.{Setup, Standing, at, ticked, tries_in, slot_step}
use Rattle.phy.specs.Round.{begun, delivered, participants, with_nodes, slots, round}
use Rattle.phy.proofs.Nodes.{delivered_state, at_ticked, at_moved}
use Rattle.phy.proofs.Counts.{along_slots}

-- ---- the slots of a round change no payload

tick_payload : (v : Node) → (tick v).payload ≡ v.payload
unfolding tick
tick_payload v = go v.state
  where
    go : (s : NodeState) → (tick_in s v).payload ≡ v.payload
    go Listen = refl
    go Flood = refl
    go Sleep = refl

transition_payload : (repeats : ℕ) (heard : Bool) (v : Node) → (transition repeats heard v).payload ≡ v.payload
unfolding transition
transition_payload repeats heard v = go v.state heard
  where
    go : (s : NodeState) (h : Bool) → (transition_in s repeats h v).payload ≡ v.payload
    go Listen true = refl
    go Listen false = refl
    go Flood h = refl
    go Sleep h = refl

pub payload_slot : (g : Setup) (s : Standing) (j : ℕ) → j < g.nodes → (at (slot_step g s).nodes j).payload ≡ (at s.nodes j).payload
unfolding slot_step
payload_slot g s j h =
    let nodes = ticked g.nodes s.nodes in
    let reached : ℕ = (tries_in g nodes s.attempts s.successes).reached in
    ap (λ (v : Node). v.payload) (at_moved g.nodes g.repeats reached nodes j h)
    ∙ transition_payload g.repeats (has reached j) (at nodes j)
    ∙ ap (λ (v : Node). v.payload) (at_ticked g.nodes s.nodes j h)
    ∙ tick_payload (at s.nodes j)

pub payload_slots : (g : Setup) (left : ℕ) (s : Standing) (j : ℕ) → j < g.nodes → (at (slots g left s).nodes j).payload ≡ (at s.nodes j).payload
payload_slots g =
    along_slots g (λ (s t : Standing). (j : ℕ) → j < g.nodes → (at t.nodes j).payload ≡ (at s.nodes j).payload)
    (λ s j h. refl) (λ s t more j h. more j h ∙ payload_slot g s j h)

-- ---- one round
module _ (g : Setup) (longest initiator : ℕ) (packet : Packet) (s : Standing) where
  -- who took no part is not the initiator
  pub part_others : (j : ℕ) → j < g.nodes → has (round g longest initiator packet s).part j ≡ false → j ≡ initiator → ⊥
  unfolding round participants
  part_others j h out e = never (has_set_of g.nodes _ j h ∙ rw (eq-eqb j initiator e)) out

  -- who took part holds the packet, every other node what it held
  pub payload_round : (j : ℕ) → j < g.nodes
      → (at (round g longest initiator packet s).after.nodes j).payload
      ≡ cond (has (round g longest initiator packet s).part j) (Some packet) (at s.nodes j).payload
  unfolding round participants delivered begun
  payload_round j h =
      ap (λ (x : Node). x.payload) got
      ∙ go (eqb j initiator) (is_sleeping v) (payload_slots g longest first j h ∙ ap (λ (x : Node). x.payload) (get_d_tabulate g.nodes _ j new h))
      ∙ ap (λ (b : Bool). cond b (Some packet) (at s.nodes j).payload)
      (sym (has_set_of g.nodes _ j h ∙ ap (λ (x : NodeState). eqb j initiator || sleeps x) (ap (λ (x : Node). x.state) got ∙ delivered_state packet v)))
    where
      first : Standing
      first = with_nodes (begun g.nodes g.repeats initiator packet s.nodes) s

      v : Node
      v = at (slots g longest first).nodes j

      got : at (delivered g.nodes packet (slots g longest first).nodes) j ≡ delivered_to packet v
      got = get_d_tabulate g.nodes (λ (i : ℕ). delivered_to packet (at (slots g longest first).nodes i)) j new h

      go : (a b : Bool) → v.payload ≡ (begun_by a packet g.repeats (at s.nodes j)).payload
          → (cond b (holding packet v) v).payload ≡ cond (a || b) (Some packet) (at s.nodes j).payload
      go true true e = refl
      go true false e = e
      go false true e = refl
      go false false e = e

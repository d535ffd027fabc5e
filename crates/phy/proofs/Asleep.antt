-- Who reaches sleep in a round, by its length limit. Assumes nothing.
use Prim.Native.Nat.{ℕ, zero, suc, ◌+◌, ◌-◌, ◌≤◌, ◌<◌}
use mathlib.Core.Path.{◌≡◌, refl, sym, ap, subst, ◌∙◌}
use mathlib.Core.Bool.{Bool, true, false, cond, ◌||◌, or-false}
use mathlib.Core.Logic.{◌⊎◌, inl, inr, ⊎_elim}
use native.Mathlib.Omega.{arith}
use lib.Dec.{eqb, ltb}
use borrow.Author.Tests.{ltb-true, ltb-false, eq-eqb, eqb-true}
use Rattle.network.specs.Graph.{has}
use Rattle.network.proofs.Sets.{two, never, set_of_cong, set_of_one}
use Rattle.random.proofs.Tables.{get_d_tabulate}
use Rattle.phy.specs.declared.node.Node.{Node}
use Rattle.phy.specs.declared.node.NodeState.TheVariants.{Listen, Flood, Sleep}
use Rattle.phy.specs.declared.packet.Packet.{Packet}
use Rattle.phy.specs.Node.{new, in_state, tick, tick_in, transition, transition_in, holding, begun_by, delivered_to, sleeps, is_flooding, is_sleeping}
use Rattle.phy.specs.Slot.{Setup, Standing, at, how_many, ticked, tries_in, slot_step}
use Rattle.phy.specs.Round.{begun, delivered, participants, with_nodes, slots, round}
use Rattle.phy.specs.Asleep.{InitiatorSleeps, NobodySleeps}
use Rattle.phy.proofs.Nodes.{onward_is, at_ticked, at_moved}
use Rattle.phy.proofs.Rounds.{flooder, slots_more, slots_last}
use Rattle.phy.proofs.Counts.{along_slots, slots_most}
use Rattle.phy.proofs.Wave.{Phase, flooding, phase_slot, floods_then, Slept, sleeps_then}

-- ---- one node in a slot
node_slot : (g : Setup) (s : Standing) (j : ℕ) → j < g.nodes → (heard : Bool) × (at (slot_step g s).nodes j ≡ transition g.repeats heard (tick (at s.nodes j)))
unfolding slot_step
node_slot g s j h =
    let nodes = ticked g.nodes s.nodes in
    let reached : ℕ = (tries_in g nodes s.attempts s.successes).reached in
    (has reached j, at_moved g.nodes g.repeats reached nodes j h ∙ ap (transition g.repeats (has reached j)) (at_ticked g.nodes s.nodes j h))

-- what a slot keeps of node j, by the slots that the round has had since slot b, holds at the round's end
module _ (g : Setup) (j b : ℕ) (R : ℕ → Node → Type 0) (most : ℕ)
    (step : (s : Standing) → b ≤ s.slot → s.slot - b < most → R (s.slot - b) (at s.nodes j) → R (suc (s.slot - b)) (at (slot_step g s).nodes j)) where
  abbrev Keeps : Standing → Standing → Type 0
  Keeps s t = (s.slot ≤ t.slot) × (b ≤ s.slot → t.slot ≤ b + most → R (s.slot - b) (at s.nodes j) → R (t.slot - b) (at t.nodes j))

  kept_slots : (left : ℕ) (s : Standing) → Keeps s (slots g left s)
  unfolding slot_step
  kept_slots =
      along_slots g Keeps (λ s. (omega arith, λ low few now. now))
      (λ s t more. (
        omega (arith, more.0),
        λ low few now.
            let next : suc (s.slot - b) ≡ s.slot + 1 - b = omega arith in
            more.1 (omega arith) few (subst (λ (k : ℕ). R k (at (slot_step g s).nodes j)) next (step s low (omega (arith, more.0)) now)),
      ))

-- a round ends at its limit, or where nobody floods
slots_end : (g : Setup) (left : ℕ) (s : Standing) → ((slots g left s).slot ≡ s.slot + left) ⊎ (ltb 0 (how_many is_flooding (slots g left s).nodes g.nodes) ≡ false)
unfolding slots slot_step
slots_end g zero s = inl (omega arith)
slots_end g (suc left) s =
    ⊎_elim
    (λ e. subst End (sym (slots_more g left s e)) (⊎_elim (λ p. inl (omega (arith, p))) (λ p. inr p) (slots_end g left (slot_step g s))))
    (λ e. subst End (sym (slots_last g left s e)) (inr e))
    (two (ltb 0 (how_many is_flooding (slot_step g s).nodes g.nodes)))
  where
    End : Standing → Type 0
    End t = (t.slot ≡ s.slot + suc left) ⊎ (ltb 0 (how_many is_flooding t.nodes g.nodes) ≡ false)

-- ---- the slots of a round
module _ (g : Setup) (longest a : ℕ) (packet : Packet) (s : Standing) where
  abbrev first : Standing
  first = with_nodes (begun g.nodes g.repeats a packet s.nodes) s

  abbrev ended : Standing
  ended = slots g longest first

  -- how many slots it has
  abbrev lasted : ℕ
  lasted = ended.slot - s.slot

  -- what holds of node j as the round begins and is kept in each slot, by the slots that the round has had, holds after its slots
  after_slots : (j : ℕ) (R : ℕ → Node → Type 0) → ((k : ℕ) (heard : Bool) (v : Node) → k < longest → R k v → R (suc k) (transition g.repeats heard (tick v)))
      → j < g.nodes → R 0 (at first.nodes j) → R lasted (at ended.nodes j)
  after_slots j R step h begins =
      (kept_slots g j s.slot R longest
      (λ t low few now. let w = node_slot g t j h in subst (R (suc (t.slot - s.slot))) (sym w.1) (step (t.slot - s.slot) w.0 (at t.nodes j) few now))
      longest first).1 (omega arith) (slots_most g longest first) (subst (λ (k : ℕ). R k (at first.nodes j)) none begins)
    where
      none : 0 ≡ s.slot - s.slot
      none = omega arith

  -- as it begins, and after it
  node_first : (j : ℕ) → j < g.nodes → at first.nodes j ≡ begun_by (eqb j a) packet g.repeats (at s.nodes j)
  unfolding begun
  node_first j h = get_d_tabulate g.nodes (λ (i : ℕ). begun_by (eqb i a) packet g.repeats (at s.nodes i)) j new h

  node_after : (j : ℕ) (b : Bool) → j < g.nodes → is_sleeping (at ended.nodes j) ≡ b
      → at (round g longest a packet s).after.nodes j ≡ cond b (holding packet (at ended.nodes j)) (at ended.nodes j)
  unfolding round delivered
  node_after j b h e =
      get_d_tabulate g.nodes (λ (i : ℕ). delivered_to packet (at ended.nodes i)) j new h
      ∙ ap (λ (x : Bool). cond x (holding packet (at ended.nodes j)) (at ended.nodes j)) e

  -- ---- its initiator floods as often as it has repeats, and then sleeps
  module _ (ha : a < g.nodes) (pos : 1 ≤ g.repeats) where
    phase : Phase (at s.nodes a) 0 g.repeats lasted (at ended.nodes a)
    phase =
        after_slots a (Phase (at s.nodes a) 0 g.repeats)
        (λ k heard v few now. phase_slot heard pos (λ p. absurd (omega arith)) (λ p. absurd (omega arith)) now) ha
        (subst (Phase (at s.nodes a) 0 g.repeats 0) (sym (node_first a ha ∙ ap (λ (b : Bool). begun_by b packet g.repeats (at s.nodes a)) (eq-eqb a a refl)))
        (flooding (omega arith) (omega arith) refl (omega arith) (omega arith) (omega arith) refl))

    -- so as long as its repeats last the round goes on to its limit
    goes_on : lasted < g.repeats → ended.slot ≡ s.slot + longest
    goes_on early =
        ⊎_elim (λ e. e) (λ e. never (flooder g.nodes ended.nodes a ha (floods_then phase (omega arith) (omega arith))) e)
        (slots_end g longest first)

pub initiator_sleeps : InitiatorSleeps
unfolding round
initiator_sleeps g longest a packet s ha pos room =
    record {
      asleep = ap is_sleeping after ∙ ap sleeps end.asleep;
      listened = ap (λ (v : Node). v.slots_listen) after ∙ omega (arith, end.listened);
      flooded = ap (λ (v : Node). v.slots_flood) after ∙ end.flooded;
      length = omega (arith, whole);
    }
  where
    whole : g.repeats ≤ lasted g longest a packet s
    whole =
        let m : ℕ = lasted g longest a packet s in
        ⊎_elim (λ e. absurd (omega (arith, room, goes_on g longest a packet s ha pos (ltb-true m g.repeats e), ltb-true m g.repeats e)))
        (ltb-false m g.repeats) (two (ltb m g.repeats))

    end : Slept (at s.nodes a) 0 g.repeats (lasted g longest a packet s) (at (ended g longest a packet s).nodes a)
    end = sleeps_then (phase g longest a packet s ha pos) pos (omega (arith, whole))

    after : at (round g longest a packet s).after.nodes a ≡ holding packet (at (ended g longest a packet s).nodes a)
    after = node_after g longest a packet s a true ha (ap sleeps end.asleep)

-- ---- a node in a round that is too short for its repeats: it listens, or it floods with more repeats left than slots; it never sleeps
data Awake (v₀ : Node) (r k : ℕ) (v : Node) : Type 0 where
  listens : v.state ≡ Listen → v.slots_sleep ≡ v₀.slots_sleep → Awake v₀ r k v
  floods : v.state ≡ Flood → r ≤ v.flood_remaining + k → v.slots_sleep ≡ v₀.slots_sleep → Awake v₀ r k v

awake_slot : {v₀ : Node} {r k : ℕ} {v : Node} (heard : Bool) → suc k < r → Awake v₀ r k v → Awake v₀ r (suc k) (transition r heard (tick v))
awake_slot {v₀} {r} {k} {v} heard early (listens e l) =
    subst (Awake v₀ r (suc k)) (sym (onward_is r heard v Listen e)) (go heard)
  where
    go : (b : Bool) → Awake v₀ r (suc k) (transition_in Listen r b (tick_in Listen v))
    go true = floods refl (omega arith) l
    go false = listens e l
awake_slot {v₀} {r} {k} {v} heard early (floods e left l) =
    subst (Awake v₀ r (suc k)) (sym (onward_is r heard v Flood e))
    (subst (λ (b : Bool). Awake v₀ r (suc k) (in_state (cond b Sleep Flood) (v.flood_remaining - 1) (tick_in Flood v))) (sym some) (floods refl (omega arith) l))
  where
    some : eqb (v.flood_remaining - 1) 0 ≡ false
    some = ⊎_elim (λ p. absurd (omega (arith, eqb-true (v.flood_remaining - 1) 0 p))) (λ p. p) (two (eqb (v.flood_remaining - 1) 0))

never_asleep : {v₀ : Node} {r k : ℕ} {v : Node} → Awake v₀ r k v → (is_sleeping v ≡ false) × (v.slots_sleep ≡ v₀.slots_sleep)
never_asleep (listens e l) = (ap sleeps e, l)
never_asleep (floods e left l) = (ap sleeps e, l)

pub nobody_sleeps : NobodySleeps
unfolding round participants
nobody_sleeps g longest a packet s ha short =
    record {
      awake = λ j h. ap is_sleeping (after j h) ∙ (awake j h).0;
      slept = λ j h. ap (λ (v : Node). v.slots_sleep) (after j h) ∙ (awake j h).1;
      part =
          set_of_cong g.nodes (λ j h. ap (λ (b : Bool). eqb j a || b) (ap is_sleeping (after j h) ∙ (awake j h).0) ∙ or-false (eqb j a))
          ∙ set_of_one g.nodes a ha;
      length = goes_on g longest a packet s ha (omega arith) (omega (arith, slots_most g longest (first g longest a packet s)));
    }
  where
    end : Standing
    end = ended g longest a packet s

    awake : (j : ℕ) → j < g.nodes → (is_sleeping (at end.nodes j) ≡ false) × ((at end.nodes j).slots_sleep ≡ (at s.nodes j).slots_sleep)
    awake j h =
        never_asleep
        (after_slots g longest a packet s j (Awake (at s.nodes j) g.repeats) (λ k heard v few now. awake_slot heard (omega arith) now) h
        (subst (Awake (at s.nodes j) g.repeats 0) (sym (node_first g longest a packet s j h)) (begins (eqb j a))))
      where
        begins : (b : Bool) → Awake (at s.nodes j) g.repeats 0 (begun_by b packet g.repeats (at s.nodes j))
        begins true = floods refl (omega arith) refl
        begins false = listens refl refl

    after : (j : ℕ) → j < g.nodes → at (round g longest a packet s).after.nodes j ≡ at end.nodes j
    after j h = node_after g longest a packet s j false h (awake j h).0

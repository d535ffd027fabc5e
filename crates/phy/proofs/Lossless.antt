-- A round in which no attempt is lost, on a graph that passes the row check and is joined. Assumes nothing.
use Prim.Native.Nat.{ℕ, zero, suc, ◌+◌, ◌-◌, ◌≤◌, ◌<◌, min}
use mathlib.Core.Path.{◌≡◌, refl, sym, ap, subst, ◌∙◌}
use mathlib.Core.Bool.{Bool, true, false, cond, or-true}
use mathlib.Core.List.{List}
use mathlib.Core.Logic.{⊎_elim}
use mathlib.Core.Option.{some}
use native.Mathlib.Nat.{eq-or-lt_of_le, le_trans, le-mul_of_pos_right}
use native.Mathlib.Omega.{arith}
use lib.Dec.{eqb, ltb}
use borrow.Author.Tests.{le-ltb, eqb-true, eqb-false}
use Rattle.network.specs.Graph.{has, linked, set_of, Checked}
use Rattle.network.specs.Distance.{distance, links, eccentricity, Joined}
use Rattle.network.proofs.Sets.{two, has_set_of, set_of_cong}
use Rattle.random.proofs.Tables.{get_d_tabulate}
use Rattle.network.proofs.Distances.{distance_self, distance_zero, distance_link, distance_before, joined_distance, eccentricity_bound, eccentricity_each}
use Rattle.phy.specs.declared.node.Node.{Node}
use Rattle.phy.specs.declared.node.NodeState.{NodeState}
use Rattle.phy.specs.declared.packet.Packet.{Packet}
use Rattle.std.specs.Prelude.{Some, None}
use Rattle.phy.specs.Packets.{payload_is}
use Rattle.phy.specs.Node.{new, transition, holding, begun_by, delivered_to, listens, floods, sleeps, is_flooding, is_sleeping}
use Rattle.phy.specs.Slot.{Setup, Standing, at, how_many, ticked, tries_in, slot_step}
use Rattle.phy.specs.Round.{length_limit, Flooded, took_part_of, begun, delivered, participants, coverage, with_nodes, slots, round}
use Rattle.phy.proofs.Nodes.{at_ticked, at_moved, state_ticked}
use Rattle.phy.proofs.Rounds.{flooder, slots_more, slots_last}
use Rattle.phy.proofs.Packets.{same_packet_itself}
use Rattle.phy.proofs.Count.{count_all, count_none}
use Rattle.phy.proofs.Tries.{NoneLost, Even, tallied_slot, tallied_round, attempts_grow, none_lost, all_heard, first_attempts}
use Rattle.phy.proofs.Reached.{hears, heard_from}
use Rattle.phy.proofs.Wave.{Phase, listening, flooding, phase_slot, floods_then, floods_when, listens_then, Slept, sleeps_then}

-- links from the initiator a to node j
abbrev pub away : List ℕ → ℕ → ℕ → ℕ → ℕ
away rows n a j = links (distance rows n a j)

-- ---- distances from the initiator
module _ (rows : List ℕ) (n a : ℕ) (ck : Checked rows n) (joined : Joined rows n) (ha : a < n) where
  away_is : (j : ℕ) → j < n → distance rows n a j ≡ some (away rows n a j)
  away_is j h = joined_distance rows n ck joined a j ha h

  away_self : away rows n a a ≡ 0
  unfolding links
  away_self = ap links (distance_self rows n ck a ha)

  away_zero : (j : ℕ) → j < n → away rows n a j ≡ 0 → j ≡ a
  away_zero j h e = distance_zero rows n ck a j ha h (away_is j h ∙ ap some e)

  away_link : (i j : ℕ) → i < n → linked rows i j ≡ true → away rows n a j ≤ suc (away rows n a i)
  unfolding links
  away_link i j h l =
      let r = distance_link rows n ck a i j (away rows n a i) ha h l (away_is i h) in
      omega (arith, r.1, ap links r.3)

  away_before : (j k : ℕ) → j < n → suc k ≡ away rows n a j → (i : ℕ) × (i < n) × (linked rows i j ≡ true) × (away rows n a i ≡ k)
  unfolding links
  away_before j k h e =
      let r = distance_before rows n ck a j k ha h (away_is j h ∙ ap some (sym e)) in
      (r.0, r.1, r.2, ap links r.3)

  -- no node is farther away than the eccentricity
  pub away_most : (j : ℕ) → j < n → away rows n a j ≤ eccentricity rows n a
  away_most j h = eccentricity_bound rows n ck a j (away rows n a j) h (away_is j h)

  away_each : (m : ℕ) → m ≤ eccentricity rows n a → (j : ℕ) × (j < n) × (away rows n a j ≡ m)
  unfolding links
  away_each m h = let r = eccentricity_each rows n ck a m ha h in (r.0, r.1, ap links r.2)

-- the same in a setup, and how long a round lasts in which nothing is lost
abbrev links_in : Setup → ℕ → ℕ → ℕ
links_in g a j = away g.rows g.nodes a j

abbrev lasts : Setup → ℕ → ℕ
lasts g a = eccentricity g.rows g.nodes a + g.repeats

-- every node is where its distance puts it before slot k of the round that begins with the nodes `before`
abbrev Wave : Setup → ℕ → List Node → ℕ → List Node → Type 0
Wave g a before k nodes = (j : ℕ) → j < g.nodes → Phase (at before j) (links_in g a j) g.repeats k (at nodes j)

module _ (g : Setup) (a : ℕ) (ck : Checked g.rows g.nodes) (joined : Joined g.rows g.nodes) (ha : a < g.nodes) (pos : 1 ≤ g.repeats) (before : List Node) where
  -- ---- one slot
  wave_slot : (k : ℕ) (s : Standing) → Wave g a before k s.nodes → NoneLost g.heard s (slot_step g s) → Wave g a before (suc k) (slot_step g s).nodes
  unfolding slot_step
  wave_slot k s wave all j hj =
      subst (Phase (at before j) (links_in g a j) g.repeats (suc k))
      (sym (at_moved g.nodes g.repeats reached nodes j hj ∙ ap (transition g.repeats (has reached j)) (at_ticked g.nodes s.nodes j hj)))
      (phase_slot (has reached j) pos near far (wave j hj))
    where
      nodes : List Node
      nodes = ticked g.nodes s.nodes

      reached : ℕ
      reached = (tries_in g nodes s.attempts s.successes).reached

      -- a neighbour one link nearer floods
      near : suc k ≡ links_in g a j → has reached j ≡ true
      near e =
          let i = away_before g.rows g.nodes a ck joined ha j k hj e in
          hears g nodes s.attempts s.successes all i.0 j i.1 hj
          (ap floods (state_ticked g.nodes s.nodes i.0 i.1) ∙ floods_then (wave i.0 i.1) (omega (arith, i.3)) (omega (arith, i.3)))
          i.2
          (ap listens (state_ticked g.nodes s.nodes j hj) ∙ listens_then (wave j hj) (omega (arith, e)))

      -- whoever floods is too far away
      far : suc k < links_in g a j → has reached j ≡ false
      far h =
          ⊎_elim
          (λ e.
          let i = heard_from g nodes s.attempts s.successes all j hj e in
          let close = floods_when (wave i.0 i.1) (ap floods (sym (state_ticked g.nodes s.nodes i.0 i.1)) ∙ i.2) in
          absurd (omega (arith, h, close, away_link g.rows g.nodes a ck joined ha i.0 j i.1 i.3)))
          (λ e. e)
          (two (has reached j))

  -- ---- somebody floods before slot e + r, and nobody then
  wave_goes_on : (k : ℕ) (nodes : List Node) → Wave g a before k nodes → k < lasts g a → ltb 0 (how_many is_flooding nodes g.nodes) ≡ true
  wave_goes_on k nodes wave h =
      let j = away_each g.rows g.nodes a ck joined ha (min k (eccentricity g.rows g.nodes a)) (omega arith) in
      flooder g.nodes nodes j.0 j.1 (floods_then (wave j.0 j.1) (omega (arith, j.2)) (omega (arith, j.2)))

  wave_ends : (k : ℕ) (nodes : List Node) → Wave g a before k nodes → lasts g a ≤ k → ltb 0 (how_many is_flooding nodes g.nodes) ≡ false
  wave_ends k nodes wave h =
      le-ltb 0 (how_many is_flooding nodes g.nodes)
      (omega (
        arith,
        count_none g.nodes (λ (j : ℕ). is_flooding (at nodes j))
            (λ j hj. ap floods (sleeps_then (wave j hj) pos (omega (arith, away_most g.rows g.nodes a ck joined ha j hj))).asleep),
      ))

  -- ---- the slots of the round
  wave_slots : (left k : ℕ) (s : Standing) → Wave g a before k s.nodes → k < lasts g a → lasts g a ≤ k + left
      → NoneLost g.heard s (slots g left s)
      → ((slots g left s).slot + k ≡ s.slot + (lasts g a)) × Wave g a before (lasts g a) (slots g left s).nodes
  unfolding slot_step
  wave_slots zero k s wave more enough all = absurd (omega arith)
  wave_slots (suc left) k s wave more enough all =
      ⊎_elim (λ last. at_end last) (λ on. goes_on on (wave_slots left (suc k) next wave_next on (omega arith))) (eq-or-lt_of_le more)
    where
      next : Standing
      next = slot_step g s

      wave_next : Wave g a before (suc k) next.nodes
      wave_next = wave_slot k s wave (λ m low high. all m low (le_trans high (first_attempts g left s)))

      goal : Standing → Type 0
      goal t = (t.slot + k ≡ s.slot + (lasts g a)) × Wave g a before (lasts g a) t.nodes

      at_end : suc k ≡ lasts g a → goal (slots g (suc left) s)
      at_end e =
          subst goal (sym (slots_last g left s (wave_ends (suc k) next.nodes wave_next (omega arith))))
          (omega arith, subst (λ (m : ℕ). Wave g a before m next.nodes) e wave_next)

      goes_on : suc k < lasts g a
          → (NoneLost g.heard next (slots g left next) → ((slots g left next).slot + suc k ≡ next.slot + (lasts g a)) × Wave g a before (lasts g a) (slots g left next).nodes)
          → goal (slots g (suc left) s)
      goes_on on rest =
          let same : slots g (suc left) s ≡ slots g left next = slots_more g left s (wave_goes_on (suc k) next.nodes wave_next on) in
          let r = rest (λ m low high. all m (le_trans (attempts_grow (tallied_slot g s)) low) (subst (λ (t : Standing). m < t.attempts) (sym same) high)) in
          subst goal (sym same) (omega (arith, r.0), r.1)

  -- ---- as the round begins
  wave_begins : (packet : Packet) → Wave g a before 0 (begun g.nodes g.repeats a packet before)
  unfolding begun
  wave_begins packet j hj =
      subst (Phase (at before j) (links_in g a j) g.repeats 0)
      (sym (get_d_tabulate g.nodes (λ (i : ℕ). begun_by (eqb i a) packet g.repeats (at before i)) j new hj))
      (⊎_elim
      (λ e. subst (λ (b : Bool). Phase (at before j) (links_in g a j) g.repeats 0 (begun_by b packet g.repeats (at before j))) (sym e) (first (eqb-true j a e)))
      (λ e. subst (λ (b : Bool). Phase (at before j) (links_in g a j) g.repeats 0 (begun_by b packet g.repeats (at before j))) (sym e) (other (eqb-false j a e)))
      (two (eqb j a)))
    where
      first : j ≡ a → Phase (at before j) (links_in g a j) g.repeats 0 (begun_by true packet g.repeats (at before j))
      first e =
          let zero-away : links_in g a j ≡ 0 = ap (links_in g a) e ∙ away_self g.rows g.nodes a ck joined ha in
          flooding (omega arith) (omega arith) refl (omega arith) (omega arith) (omega arith) refl

      other : (j ≡ a → ⊥) → Phase (at before j) (links_in g a j) g.repeats 0 (begun_by false packet g.repeats (at before j))
      other ne =
          let some-away : links_in g a j ≡ 0 → ⊥ = λ z. ne (away_zero g.rows g.nodes a ck joined ha j hj z) in
          listening (omega arith) refl (omega arith) refl refl

-- ---- What the round leaves, with D the links from the initiator and e its eccentricity.
pub record Lossless (g : Setup) (a : ℕ) (packet : Packet) (s : Standing) (r : Flooded) : Type 0 where
  -- the round has e + repeats slots
  pub length : r.after.slot ≡ s.slot + (eccentricity g.rows g.nodes a + g.repeats)
  -- each node listens D, floods repeats, and sleeps e - D of them
  pub listened : (j : ℕ) → j < g.nodes → (at r.after.nodes j).slots_listen ≡ (at s.nodes j).slots_listen + away g.rows g.nodes a j
  pub flooded : (j : ℕ) → j < g.nodes → (at r.after.nodes j).slots_flood ≡ (at s.nodes j).slots_flood + g.repeats
  pub slept : (j : ℕ) → j < g.nodes → (at r.after.nodes j).slots_sleep ≡ (at s.nodes j).slots_sleep + (eccentricity g.rows g.nodes a - away g.rows g.nodes a j)
  -- each node ends asleep and holds the packet
  pub asleep : (j : ℕ) → j < g.nodes → is_sleeping (at r.after.nodes j) ≡ true
  pub held : (j : ℕ) → j < g.nodes → (at r.after.nodes j).payload ≡ Some packet
  -- all took part and are covered
  pub part : r.part ≡ set_of g.nodes (λ (j : ℕ). true)
  pub covered : r.covered ≡ g.nodes
  -- attempts and successes grow by the same number
  pub tries : Even s r.after

module _ {g : Setup} {a : ℕ} {packet : Packet} {s : Standing} {r : Flooded} (l : Lossless g a packet s r) where
  pub each_took_part : (j : ℕ) → j < g.nodes → has r.part j ≡ true
  each_took_part j h = ap (λ (x : ℕ). has x j) l.part ∙ has_set_of g.nodes (λ _. true) j h

  pub all_took_part : took_part_of g.nodes r ≡ g.nodes
  all_took_part = count_all g.nodes (has r.part) each_took_part

-- The lossless round. Premises: the rows pass the row check; paths join all nodes; the initiator is one of the nodes; a node floods in
-- at least one slot; the limit leaves room for e + repeats slots; and every attempt of the round is heard.
pub lossless_round : (g : Setup) (longest a : ℕ) (packet : Packet) (s : Standing)
    → Checked g.rows g.nodes → Joined g.rows g.nodes → a < g.nodes → 1 ≤ g.repeats → eccentricity g.rows g.nodes a + g.repeats ≤ longest
    → NoneLost g.heard s (round g longest a packet s).after
    → Lossless g a packet s (round g longest a packet s)
unfolding round delivered participants coverage
lossless_round g longest a packet s ck joined ha pos enough all =
    record {
      length = omega (arith, wave.0);
      listened = λ j h. ap (λ (v : Node). v.slots_listen) (node j h) ∙ (ends j h).listened;
      flooded = λ j h. ap (λ (v : Node). v.slots_flood) (node j h) ∙ (ends j h).flooded;
      slept = λ j h. ap (λ (v : Node). v.slots_sleep) (node j h) ∙ omega (arith, (ends j h).slept, away_most g.rows g.nodes a ck joined ha j h);
      asleep = λ j h. asleep j h;
      held = λ j h. ap (λ (v : Node). v.payload) (node j h);
      part = set_of_cong g.nodes (λ j h. rw (asleep j h) (or-true (eqb j a)));
      covered = count_all g.nodes (λ (j : ℕ). payload_is packet (at after j).payload) (λ j h. ap (λ (v : Node). payload_is packet v.payload) (node j h) ∙ same_packet_itself packet);
      tries = none_lost (tallied_round g longest a packet s) all;
    }
  where
    first : Standing
    first = with_nodes (begun g.nodes g.repeats a packet s.nodes) s

    ended : Standing
    ended = slots g longest first

    after : List Node
    after = delivered g.nodes packet ended.nodes

    wave : (ended.slot + 0 ≡ s.slot + (lasts g a)) × Wave g a s.nodes (lasts g a) ended.nodes
    wave = wave_slots g a ck joined ha pos s.nodes longest 0 first (wave_begins g a ck joined ha pos s.nodes packet) (omega arith) (omega arith) all

    ends : (j : ℕ) → j < g.nodes → Slept (at s.nodes j) (links_in g a j) g.repeats (lasts g a) (at ended.nodes j)
    ends j h = sleeps_then (wave.1 j h) pos (omega (arith, away_most g.rows g.nodes a ck joined ha j h))

    -- a sleeping node gets the packet
    node : (j : ℕ) → j < g.nodes → at after j ≡ holding packet (at ended.nodes j)
    node j h =
        get_d_tabulate g.nodes (λ (i : ℕ). delivered_to packet (at ended.nodes i)) j new h
        ∙ ap (λ (x : NodeState). cond (sleeps x) (holding packet (at ended.nodes j)) (at ended.nodes j)) (ends j h).asleep

    asleep : (j : ℕ) → j < g.nodes → is_sleeping (at after j) ≡ true
    asleep j h = ap is_sleeping (node j h) ∙ ap sleeps (ends j h).asleep

-- where attempts and successes grow by the same number
pub lossless_tries : (g : Setup) (longest a : ℕ) (packet : Packet) (s : Standing)
    → Checked g.rows g.nodes → Joined g.rows g.nodes → a < g.nodes → 1 ≤ g.repeats → eccentricity g.rows g.nodes a + g.repeats ≤ longest
    → Even s (round g longest a packet s).after
    → Lossless g a packet s (round g longest a packet s)
lossless_tries g longest a packet s ck joined ha pos enough e =
    lossless_round g longest a packet s ck joined ha pos enough (all_heard (tallied_round g longest a packet s) e)

-- a length that is not configured leaves room for such a round
pub limit_enough : (diameter repeats : ℕ) → 1 ≤ repeats → diameter + repeats ≤ length_limit None diameter repeats
limit_enough diameter repeats pos = omega (arith, le-mul_of_pos_right diameter pos)

-- A slot, as the code keeps it: sets of nodes, a queue of sets for the repeats, and the slots of all nodes in each state. Assumes nothing.
use Prim.Native.Nat.{ℕ, zero, suc, ◌+◌, ◌-◌, ◌*◌, ◌^◌, ◌≤◌, ◌<◌}
use mathlib.Core.Path.{◌≡◌, refl, sym, ap, ap₂, subst, ◌∙◌}
use mathlib.Core.Bool.{Bool, true, false, not, cond, ◌&&◌, ◌||◌, and-false, or-false}
use mathlib.Core.List.{List}
use mathlib.Core.Logic.{◌⊎◌, inl, inr, ⊎_elim}
use native.Mathlib.Nat.{mul-le-mul_right, eq-or-lt_of_le}
use native.Mathlib.Omega.{arith}
use lib.Bits.{bit_and, and_le_l, or_lt}
use lib.Dec.{eqb}
use lib.Count.{ones}
use lib.ListN.{get_or, set, length-set}
use lib.Seq.{get_or-set_same, get_or-set_other}
use borrow.Author.Tests.{eqb-true, eqb-false, eq-eqb, ne_eqb}
use Rattle.config.specs.Limits.{max_nodes, count_bound}
use Rattle.network.specs.Graph.{has, set_of, count}
use Rattle.network.proofs.Lowest.{has_minus}
use Rattle.network.proofs.Sets.{two, never, same, has_or, has_set_of, set_of_lt}
use Rattle.random.specs.declared.draws.Stream.{Stream}
use Rattle.phy.specs.declared.node.Node.{Node}
use Rattle.phy.specs.declared.node.NodeState.{NodeState}
use Rattle.phy.specs.declared.node.NodeState.TheVariants.{Listen, Flood, Sleep}
use Rattle.phy.specs.declared.slot.Awake.{Awake}
use Rattle.phy.specs.declared.slot.Radios.{Radios}
use Rattle.phy.specs.declared.slot.Settings.{Settings}
use Rattle.phy.specs.declared.slot.Tried.{Tried}
use Rattle.phy.specs.declared.snapshot.Shown.{Shown}
use Rattle.phy.specs.declared.snapshot.Schedule.{Schedule}
use Rattle.phy.specs.Node.{tick_in, transition, transition_in, listens, floods, sleeps, is_listening, is_flooding, is_sleeping}
use Rattle.phy.specs.Slot.{Setup, Shots, Standing, at, sum_of, ticked, moved, snapshot, attempt_all, tries_in, take_while, slot_step}
use Rattle.phy.specs.View.{Tables, tables, as_setup, tries_of, receivers_of, shown_of, shot_of, TakesDue, awake_after, Advances, place_after, Queued, Stands, InSlot}
use Rattle.phy.proofs.Nodes.{onward_is, at_ticked, at_moved, total_slot, ones_set_of, three_states}
use Rattle.phy.proofs.Counts.{all_slots_lem}
use Rattle.phy.proofs.Masks.{has_and, set_is}
use Rattle.phy.proofs.Places.{place_first, place_lt, place_other, place_then, place_last}
use Rattle.phy.proofs.Slots.{awake_few, shot_is, tries_are}

-- ---- one node
abbrev onward : NodeState → ℕ → Bool → Node → Node
onward st repeats heard v = transition_in st repeats heard (tick_in st v)

-- a node's repeats, one less
pred_eqb : (r i : ℕ) → 1 ≤ r → eqb (r - 1) i ≡ eqb r (i + 1)
pred_eqb r i h = same (λ e. eq-eqb r (i + 1) (omega (arith, eqb-true (r - 1) i e))) (λ e. eq-eqb (r - 1) i (omega (arith, eqb-true r (i + 1) e)))

-- what follows for a node v whose state is st: it becomes w
record Followed (st : NodeState) (repeats : ℕ) (heard : Bool) (v w : Node) : Type 0 where
  listening : is_listening w ≡ listens st && not heard
  flooding : is_flooding w ≡ (floods st && not (eqb v.flood_remaining 1)) || (listens st && heard)
  left : is_flooding w ≡ true → (1 ≤ w.flood_remaining) × (w.flood_remaining ≤ repeats)
  later : (i : ℕ) → i + 1 < repeats → is_flooding w && eqb w.flood_remaining (i + 1) ≡ floods st && eqb v.flood_remaining (i + 1 + 1)
  newest : is_flooding w && eqb w.flood_remaining repeats ≡ listens st && heard
  slots_listen : w.slots_listen ≡ v.slots_listen + cond (listens st) 1 0
  slots_flood : w.slots_flood ≡ v.slots_flood + cond (floods st) 1 0
  slots_sleep : w.slots_sleep ≡ v.slots_sleep + cond (sleeps st) 1 0

-- a node that keeps its state, and does not flood
stayed : (st : NodeState) (repeats : ℕ) (heard : Bool) (v w : Node) → w.state ≡ st → floods st ≡ false → listens st && heard ≡ false → listens st && not heard ≡ listens st
    → w.slots_listen ≡ v.slots_listen + cond (listens st) 1 0 → w.slots_flood ≡ v.slots_flood + 0 → w.slots_sleep ≡ v.slots_sleep + cond (sleeps st) 1 0
    → Followed st repeats heard v w
stayed st repeats heard v w e quiet deaf same-still l f z =
    let silent : is_flooding w ≡ false = ap floods e ∙ quiet in
    record {
      listening = ap listens e ∙ sym same-still;
      flooding = silent ∙ sym (ap₂ ◌||◌ (ap (λ (b : Bool). b && not (eqb v.flood_remaining 1)) quiet) deaf);
      left = λ g. never g silent;
      later = λ i b. ap (λ (c : Bool). c && eqb w.flood_remaining (i + 1)) silent ∙ sym (ap (λ (c : Bool). c && eqb v.flood_remaining (i + 1 + 1)) quiet);
      newest = ap (λ (c : Bool). c && eqb w.flood_remaining repeats) silent ∙ sym deaf;
      slots_listen = l;
      slots_flood = f ∙ ap (λ (b : Bool). v.slots_flood + cond b 1 0) (sym quiet);
      slots_sleep = z;
    }

followed : (st : NodeState) (repeats : ℕ) (heard : Bool) (v : Node) → v.state ≡ st → 1 ≤ repeats
    → (floods st ≡ true → (1 ≤ v.flood_remaining) × (v.flood_remaining ≤ repeats))
    → Followed st repeats heard v (onward st repeats heard v)
followed Listen repeats true v e some are =
    record {
      listening = refl;
      flooding = refl;
      left = λ f. (some, omega arith);
      later = λ i l. ne_eqb repeats (i + 1) (λ q. absurd (omega (arith, q, l)));
      newest = eq-eqb repeats repeats refl;
      slots_listen = refl;
      slots_flood = omega arith;
      slots_sleep = omega arith;
    }
followed Listen repeats false v e some are = stayed Listen repeats false v (tick_in Listen v) e refl refl refl refl (omega arith) (omega arith)
followed Sleep repeats heard v e some are = stayed Sleep repeats heard v (tick_in Sleep v) e refl refl refl (omega arith) (omega arith) refl
followed Flood repeats heard v e some are =
    record {
      listening = silent (eqb m 0);
      flooding = goes_on (eqb m 0) ∙ ap not (pred_eqb v.flood_remaining 0 (are refl).0) ∙ sym (or-false (not (eqb v.flood_remaining 1)));
      left = λ f. (positive m (two (eqb m 0)) f, omega (arith, (are refl).1));
      later = λ i l. ap (λ (b : Bool). b && eqb m (i + 1)) (goes_on (eqb m 0)) ∙ again i (two (eqb m (i + 1))) ∙ pred_eqb v.flood_remaining (i + 1) (are refl).0;
      newest = ap (λ (b : Bool). floods (cond (eqb m 0) Sleep Flood) && b) (ne_eqb m repeats (λ q. absurd (omega (arith, q, (are refl).0, (are refl).1)))) ∙ and-false (floods (cond (eqb m 0) Sleep Flood));
      slots_listen = omega arith;
      slots_flood = refl;
      slots_sleep = omega arith;
    }
  where
    m : ℕ
    m = v.flood_remaining - 1

    silent : (b : Bool) → listens (cond b Sleep Flood) ≡ false
    silent true = refl
    silent false = refl

    goes_on : (b : Bool) → floods (cond b Sleep Flood) ≡ not b
    goes_on true = refl
    goes_on false = refl

    positive : (k : ℕ) → (eqb k 0 ≡ true) ⊎ (eqb k 0 ≡ false) → floods (cond (eqb k 0) Sleep Flood) ≡ true → 1 ≤ k
    positive k (inl q) f = never f (ap (λ (b : Bool). floods (cond b Sleep Flood)) q)
    positive k (inr q) f = omega (arith, eqb-false k 0 q)

    again : (i : ℕ) → (eqb m (i + 1) ≡ true) ⊎ (eqb m (i + 1) ≡ false) → not (eqb m 0) && eqb m (i + 1) ≡ eqb m (i + 1)
    again i (inl q) = ap (λ (b : Bool). not b && eqb m (i + 1)) (ne_eqb m 0 (λ z. absurd (omega (arith, z, eqb-true m (i + 1) q))))
    again i (inr q) = ap (λ (b : Bool). not (eqb m 0) && b) q ∙ and-false (not (eqb m 0)) ∙ sym q

-- ---- sums of which each part grows by one or stays
pub sum_more : (f : Node → ℕ) (before after : List Node) (p : ℕ → Bool) (n : ℕ) → ((j : ℕ) → j < n → f (at after j) ≡ f (at before j) + cond (p j) 1 0)
    → sum_of f after n ≡ sum_of f before n + count n p
unfolding sum_of count
sum_more f before after p zero h = refl
sum_more f before after p (suc n) h = omega (arith, sum_more f before after p n (λ j b. h j (omega arith)), h n (omega arith))

pub sum_cong : (f : Node → ℕ) (before after : List Node) (n : ℕ) → ((j : ℕ) → j < n → f (at after j) ≡ f (at before j)) → sum_of f after n ≡ sum_of f before n
unfolding sum_of
sum_cong f before after zero h = refl
sum_cong f before after (suc n) h = ap₂ ◌+◌ (sum_cong f before after n (λ j b. h j (omega arith))) (h n (omega arith))

-- ---- all nodes, after a slot in which the nodes of a set heard
module _ (n repeats reached : ℕ) (nodes : List Node) (x : Awake) (e : List ℕ) (p : ℕ)
    (who-listens : x.listening ≡ set_of n (λ (j : ℕ). is_listening (at nodes j)))
    (who-floods : x.flooding ≡ set_of n (λ (j : ℕ). is_flooding (at nodes j)))
    (q : Queued n repeats e p nodes) where
  abbrev pub afterwards : List Node
  afterwards = moved n repeats reached (ticked n nodes)

  abbrev hearers : ℕ
  hearers = bit_and x.listening reached

  each : (j : ℕ) → j < n → at afterwards j ≡ onward (at nodes j).state repeats (has reached j) (at nodes j)
  each j b = at_moved n repeats reached (ticked n nodes) j b ∙ ap (transition repeats (has reached j)) (at_ticked n nodes j b) ∙ onward_is repeats (has reached j) (at nodes j) (at nodes j).state refl

  step : (j : ℕ) → j < n → Followed (at nodes j).state repeats (has reached j) (at nodes j) (at afterwards j)
  step j b =
      subst (Followed (at nodes j).state repeats (has reached j) (at nodes j)) (sym (each j b))
      (followed (at nodes j).state repeats (has reached j) (at nodes j) refl (omega (arith, q.place)) (q.left j b))

  listening_bit : (j : ℕ) → j < n → has x.listening j ≡ is_listening (at nodes j)
  listening_bit j b = ap (λ (s : ℕ). has s j) who-listens ∙ has_set_of n _ j b

  flooding_bit : (j : ℕ) → j < n → has x.flooding j ≡ is_flooding (at nodes j)
  flooding_bit j b = ap (λ (s : ℕ). has s j) who-floods ∙ has_set_of n _ j b

  heard_bit : (j : ℕ) → j < n → has hearers j ≡ is_listening (at nodes j) && has reached j
  heard_bit j b = has_and x.listening reached j ∙ ap (λ (y : Bool). y && has reached j) (listening_bit j b)

  done_bit : (j : ℕ) → j < n → has (get_or e p 0) j ≡ is_flooding (at nodes j) && eqb (at nodes j).flood_remaining 1
  done_bit j b = ap (λ (k : ℕ). has (get_or e k 0) j) (sym (place_first repeats p q.place)) ∙ q.stand 0 j (omega (arith, q.place)) b

  listening_small : x.listening < 2 ^ n
  listening_small = subst (λ (s : ℕ). s < 2 ^ n) (sym who-listens) (set_of_lt n _)

  flooding_small : x.flooding < 2 ^ n
  flooding_small = subst (λ (s : ℕ). s < 2 ^ n) (sym who-floods) (set_of_lt n _)

  pub listening_now : (awake_after (get_or e p 0) reached x).listening ≡ set_of n (λ (j : ℕ). is_listening (at afterwards j))
  listening_now =
      set_is n _ (omega (arith, listening_small))
      (λ j b. has_minus x.listening reached j ∙ ap (λ (y : Bool). y && not (has reached j)) (listening_bit j b) ∙ sym (step j b).listening)

  pub flooding_now : (awake_after (get_or e p 0) reached x).flooding ≡ set_of n (λ (j : ℕ). is_flooding (at afterwards j))
  flooding_now =
      set_is n _
      (or_lt n (x.flooding - bit_and x.flooding (get_or e p 0)) hearers (omega (arith, flooding_small)) (omega (arith, listening_small, and_le_l x.listening reached)))
      (λ j b.
      has_or (x.flooding - bit_and x.flooding (get_or e p 0)) hearers j
      ∙ ap₂ ◌||◌ (has_minus x.flooding (get_or e p 0) j ∙ ap₂ (λ (y z : Bool). y && not z) (flooding_bit j b) (done_bit j b) ∙ own (is_flooding (at nodes j)) _) (heard_bit j b)
      ∙ sym (step j b).flooding)
    where
      own : (y z : Bool) → y && not (y && z) ≡ y && not z
      own true z = refl
      own false z = refl

  pub queued_now : Queued n repeats (set e p hearers) (place_after repeats p 1) afterwards
  queued_now =
      record {
        place = place_lt repeats p 1 q.place (omega (arith, q.place));
        room = omega (arith, q.room, length-set e p hearers);
        left = λ j b. (step j b).left;
        stand = λ i j l b. ⊎_elim (λ w. newest_place i j b w) (λ w. later_place i j b w) (eq-or-lt_of_le l);
      }
    where
      newest_place : (i j : ℕ) → j < n → suc i ≡ repeats → has (get_or (set e p hearers) (place_after repeats (place_after repeats p 1) i) 0) j ≡ is_flooding (at afterwards j) && eqb (at afterwards j).flood_remaining (i + 1)
      newest_place i j b w =
          let all : i + 1 ≡ repeats = omega (arith, w) in
          ap (λ (k : ℕ). has (get_or (set e p hearers) k 0) j) (place_last repeats p i q.place all)
          ∙ ap (λ (s : ℕ). has s j) (get_or-set_same e p hearers 0 (omega (arith, q.place, q.room)))
          ∙ heard_bit j b
          ∙ sym (step j b).newest
          ∙ ap (λ (k : ℕ). is_flooding (at afterwards j) && eqb (at afterwards j).flood_remaining k) (sym all)

      later_place : (i j : ℕ) → j < n → suc i < repeats → has (get_or (set e p hearers) (place_after repeats (place_after repeats p 1) i) 0) j ≡ is_flooding (at afterwards j) && eqb (at afterwards j).flood_remaining (i + 1)
      later_place i j b w =
          let more : i + 1 < repeats = omega (arith, w) in
          ap (λ (k : ℕ). has (get_or (set e p hearers) k 0) j) (place_then repeats p i q.place more)
          ∙ ap (λ (s : ℕ). has s j) (get_or-set_other e p (place_after repeats p (i + 1)) hearers 0 (place_other repeats p (i + 1) q.place (omega arith) more))
          ∙ q.stand (i + 1) j more b
          ∙ sym ((step j b).later i more)

  pub listens_now : sum_of (λ (v : Node). v.slots_listen) afterwards n ≡ sum_of (λ (v : Node). v.slots_listen) nodes n + count n (λ (j : ℕ). is_listening (at nodes j))
  listens_now = sum_more (λ (v : Node). v.slots_listen) nodes afterwards (λ (j : ℕ). is_listening (at nodes j)) n (λ j b. (step j b).slots_listen)

  pub floods_now : sum_of (λ (v : Node). v.slots_flood) afterwards n ≡ sum_of (λ (v : Node). v.slots_flood) nodes n + count n (λ (j : ℕ). is_flooding (at nodes j))
  floods_now = sum_more (λ (v : Node). v.slots_flood) nodes afterwards (λ (j : ℕ). is_flooding (at nodes j)) n (λ j b. (step j b).slots_flood)

  pub sleeps_now : sum_of (λ (v : Node). v.slots_sleep) afterwards n ≡ sum_of (λ (v : Node). v.slots_sleep) nodes n + count n (λ (j : ℕ). is_sleeping (at nodes j))
  sleeps_now = sum_more (λ (v : Node). v.slots_sleep) nodes afterwards (λ (j : ℕ). is_sleeping (at nodes j)) n (λ j b. (step j b).slots_sleep)

-- ---- the sums are nodes times slots, so that one slot more has room
module _ (n : ℕ) {x : Radios} {b₀ b : List ℕ} {s : Standing} {seen : Shown} {progress : ℕ} (few : n ≤ max_nodes) (early : x.slot.0 < count_bound) (st : Stands n x b₀ b s)
    (seen-is : seen ≡ shown_of n progress x.awake) where
  sums : x.slots_listen + x.slots_flood + x.slots_sleep ≡ n * x.slot.0
  sums = omega (arith, st.listens, st.floods, st.sleeps, all_slots_lem s.nodes n x.slot.0 (λ j p. st.counted j p ∙ sym st.slot))

  bounded : n * x.slot.0 ≤ max_nodes * x.slot.0
  bounded = mul-le-mul_right x.slot.0 few

  shown_few : (seen.listening ≤ max_nodes) × (seen.flooding ≤ max_nodes) × (seen.sleeping ≤ max_nodes)
  shown_few =
      let l : seen.listening ≡ ones x.awake.listening = ap (λ (y : Shown). y.listening) seen-is in
      let f : seen.flooding ≡ ones x.awake.flooding = ap (λ (y : Shown). y.flooding) seen-is in
      let z : seen.sleeping ≡ n - ones x.awake.listening - ones x.awake.flooding = ap (λ (y : Shown). y.sleeping) seen-is in
      let all = awake_few n s.nodes x.awake st.listening st.flooding in
      (omega (arith, l, all, few), omega (arith, f, all, few), omega (arith, z, few))

  pub few_slots : (x.slots_listen + seen.listening < 2 ^ 64) × (x.slots_flood + seen.flooding < 2 ^ 64) × (x.slots_sleep + seen.sleeping < 2 ^ 64)
  few_slots = (omega (arith, sums, bounded, early, shown_few.0), omega (arith, sums, bounded, early, shown_few.1), omega (arith, sums, bounded, early, shown_few.2))

-- ---- a whole slot: what its parts gave leads where the definitions lead
module _ (g : Settings) (rows : List ℕ) (heard : ℕ → Bool) (p : ℕ) (x : Radios) (t : Tables) (b₀ : List ℕ) (s : Standing) (here : InSlot g p x t b₀ s)
    (seen : Shown) (seen-is : seen ≡ shown_of g.nodes g.progress x.awake)
    (taken : Schedule) (b' : List ℕ)
    (takes : TakesDue g.interval x.slot.0 seen x.first_stored (record { next = record { 0 = x.next_snapshot.0 }; count = x.snapshots }) t.snapshots taken b')
    (tried : Tried)
    (tried-is : tries_of tried ≡ attempt_all heard (record { attempts = x.attempts; successes = x.successes; reached = 0 }) (receivers_of rows g.nodes x.awake))
    (r : Awake) (e' : List ℕ) (advances : Advances p tried.reached x.awake t.queue r e') where
  abbrev n : ℕ
  n = g.nodes

  abbrev st : Stands n x b₀ t.snapshots s
  st = here.stands

  abbrev setup : Setup
  setup = as_setup g rows heard

  abbrev counted : List Node
  counted = ticked n s.nodes

  abbrev before : Awake
  before = x.awake

  tries : tries_of tried ≡ tries_in setup counted s.attempts s.successes
  tries =
      tried-is
      ∙ tries_are n s.nodes x.awake st.listening st.flooding setup x.attempts x.successes refl
      ∙ ap₂ (tries_in setup counted) st.attempts st.successes

  abbrev shots : Shots
  shots = take_while g.interval (shot_of seen) x.slot.0 (suc x.slot.0) s.shots

  same_shots : shots ≡ take_while g.interval (snapshot n g.progress counted) s.slot (suc s.slot) s.shots
  same_shots =
      ap₂ (λ (f : ℕ → List ℕ) (k : ℕ). take_while g.interval f k (suc k) s.shots)
      (ap shot_of seen-is ∙ shot_is n s.nodes x.awake st.listening st.flooding g.progress) st.slot

  abbrev there : Standing
  there =
      record {
        nodes = moved n g.repeats tried.reached counted;
        attempts = tried.attempts;
        successes = tried.successes;
        slot = x.slot.0 + 1;
        shots = shots;
      }

  arrives : there ≡ slot_step setup s
  unfolding slot_step
  arrives =
      λ i.
      record {
        nodes = moved n g.repeats (tries i).reached counted;
        attempts = (tries i).attempts;
        successes = (tries i).successes;
        slot = st.slot i + 1;
        shots = same_shots i;
      }

  listen_count : seen.listening ≡ count n (λ (j : ℕ). is_listening (at s.nodes j))
  listen_count = ap (λ (y : Shown). y.listening) seen-is ∙ ap ones st.listening ∙ ones_set_of n _

  flood_count : seen.flooding ≡ count n (λ (j : ℕ). is_flooding (at s.nodes j))
  flood_count = ap (λ (y : Shown). y.flooding) seen-is ∙ ap ones st.flooding ∙ ones_set_of n _

  sleep_count : seen.sleeping ≡ count n (λ (j : ℕ). is_sleeping (at s.nodes j))
  sleep_count =
      let total : seen.sleeping ≡ n - ones x.awake.listening - ones x.awake.flooding = ap (λ (y : Shown). y.sleeping) seen-is in
      let a : ones x.awake.listening ≡ count n (λ (j : ℕ). is_listening (at s.nodes j)) = ap ones st.listening ∙ ones_set_of n _ in
      let f : ones x.awake.flooding ≡ count n (λ (j : ℕ). is_flooding (at s.nodes j)) = ap ones st.flooding ∙ ones_set_of n _ in
      omega (arith, total, a, f, three_states n s.nodes)

  abbrev after : Radios
  after =
      record {
        awake = r;
        slots_listen = x.slots_listen + seen.listening;
        slots_flood = x.slots_flood + seen.flooding;
        slots_sleep = x.slots_sleep + seen.sleeping;
        attempts = tried.attempts;
        successes = tried.successes;
        slot = record { 0 = x.slot.0 + 1 };
        next_snapshot = record { 0 = taken.next.0 };
        snapshots = taken.count;
        first_stored = x.first_stored;
      }

  stands_there : Stands n after b₀ b' there
  stands_there =
      record {
        listening = ap (λ (y : Awake). y.listening) advances.awake ∙ listening_now n g.repeats tried.reached s.nodes before t.queue p st.listening st.flooding here.queued;
        flooding = ap (λ (y : Awake). y.flooding) advances.awake ∙ flooding_now n g.repeats tried.reached s.nodes before t.queue p st.listening st.flooding here.queued;
        listens = ap₂ ◌+◌ st.listens listen_count ∙ sym (listens_now n g.repeats tried.reached s.nodes before t.queue p st.listening st.flooding here.queued);
        floods = ap₂ ◌+◌ st.floods flood_count ∙ sym (floods_now n g.repeats tried.reached s.nodes before t.queue p st.listening st.flooding here.queued);
        sleeps = ap₂ ◌+◌ st.sleeps sleep_count ∙ sym (sleeps_now n g.repeats tried.reached s.nodes before t.queue p st.listening st.flooding here.queued);
        counted = λ j p. total_slot n g.repeats tried.reached s.nodes j p ∙ ap (λ (k : ℕ). k + 1) (st.counted j p ∙ sym st.slot);
        attempts = refl;
        successes = refl;
        slot = refl;
        shots = takes.scheduled b₀ s.shots st.shots;
      }

  pub slot_stands : (w : Stream) → InSlot g (place_after g.repeats p 1) after (tables e' w b') b₀ (slot_step setup s)
  slot_stands w =
      subst (InSlot g (place_after g.repeats p 1) after (tables e' w b') b₀) arrives
      (record {
        stands = stands_there;
        queued = subst (λ (l : List ℕ). Queued n g.repeats l (place_after g.repeats p 1) there.nodes) (sym advances.queue)
            (queued_now n g.repeats tried.reached s.nodes before t.queue p st.listening st.flooding here.queued);
      })

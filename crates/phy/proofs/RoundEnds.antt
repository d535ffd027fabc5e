-- A round's begin and end, as the code keeps them. Assumes nothing.
use Prim.Native.Nat.{ℕ, zero, suc, ◌+◌, ◌-◌, ◌^◌, ◌≤◌, ◌<◌}
use mathlib.Core.Path.{◌≡◌, refl, sym, ap, ap₂, subst⁻¹, ◌∙◌}
use mathlib.Core.Bool.{Bool, true, false, not, cond, ◌&&◌, ◌||◌, or_comm}
use mathlib.Core.List.{List}
use mathlib.Core.Logic.{◌⊎◌, inl, inr, ⊎_elim}
use native.Mathlib.Nat.{pow-suc, zero-add}
use native.Mathlib.Omega.{arith}
use lib.Bits.{bit_and, bit_or, or_lt}
use lib.Dec.{eqb}
use lib.Pow.{pow_pos, pow-lt}
use lib.ListN.{length, get_or, set, length-set}
use lib.Seq.{get_or-set_same, get_or-set_other}
use borrow.Author.Tests.{eqb-true, eqb-false, eq-eqb, ne_eqb, lt-ltb}
use Rattle.network.specs.Graph.{has, set_of}
use Rattle.network.proofs.Lowest.{has_minus, has_zero}
use Rattle.network.proofs.Sets.{two, has_or, has_one, has_full, has_set_of, set_of_cong, set_of_one}
use Rattle.random.proofs.Tables.{get_d_tabulate}
use Rattle.random.specs.declared.draws.Stream.{Stream}
use Rattle.phy.specs.declared.node.Node.{Node}
use Rattle.phy.specs.declared.node.NodeState.{NodeState}
use Rattle.phy.specs.declared.node.NodeState.TheVariants.{Listen, Flood, Sleep}
use Rattle.phy.specs.declared.packet.Packet.{Packet}
use Rattle.phy.specs.declared.slot.Radios.{Radios}
use Rattle.phy.specs.declared.slot.Settings.{Settings}
use Rattle.phy.specs.Node.{new, begun_by, delivered_to, holding, listens, floods, sleeps, is_listening, is_flooding, is_sleeping}
use Rattle.phy.specs.Slot.{Standing, at, sum_of}
use Rattle.phy.specs.Round.{begun, delivered, with_nodes, participants}
use Rattle.phy.specs.View.{tables, Stands, Queued, InSlot, Emptied, place_after, begun_flood, CanBegin, Begins}
use Rattle.phy.proofs.Masks.{set_is}
use Rattle.phy.proofs.Nodes.{delivered_state, total_begun, total_delivered}
use Rattle.phy.proofs.Steps.{sum_cong}

-- ---- the set of all nodes but one
two_parts : (n : ℕ) (f : ℕ → Bool) → set_of n f + set_of n (λ (j : ℕ). not (f j)) + 1 ≡ 2 ^ n
unfolding set_of
two_parts zero f = refl
two_parts (suc n) f = omega (arith, two_parts n f, pow-suc 2 n, one (f n))
  where
    one : (b : Bool) → cond b (2 ^ n) 0 + cond (not b) (2 ^ n) 0 ≡ 2 ^ n
    one true = omega arith
    one false = omega arith

pub all_but : (n first : ℕ) → first < n → set_of n (λ (j : ℕ). not (eqb j first)) ≡ 2 ^ n - 1 - 2 ^ first
all_but n first h = omega (arith, two_parts n (λ (j : ℕ). eqb j first), set_of_one n first h)

-- ---- the nodes that took part, as a word
pub part_set : (n first awake : ℕ) → first < n
    → bit_or (2 ^ n - 1 - bit_and (2 ^ n - 1) awake) (2 ^ first) ≡ set_of n (λ (k : ℕ). eqb k first || not (has awake k))
part_set n first awake few =
    set_is n _ (or_lt n (2 ^ n - 1 - bit_and (2 ^ n - 1) awake) (2 ^ first) (omega (arith, pow_pos n)) (pow-lt few))
    (λ j p.
    has_or _ (2 ^ first) j
    ∙ ap₂ ◌||◌ (has_minus (2 ^ n - 1) awake j ∙ ap (λ (b : Bool). b && not (has awake j)) (has_full n j p)) (has_one n first j few p)
    ∙ or_comm (not (has awake j)) (eqb j first))

-- ---- a round begins
module _ (n repeats first : ℕ) (packet : Packet) (x : Radios) (b₀ b : List ℕ) (s : Standing) (few : first < n) (some : 1 ≤ repeats) (st : Stands n x b₀ b s) where
  abbrev nodes : List Node
  nodes = s.nodes

  abbrev opened : List Node
  opened = begun n repeats first packet nodes

  each : (j : ℕ) → j < n → at opened j ≡ begun_by (eqb j first) packet repeats (at nodes j)
  unfolding begun
  each j p = get_d_tabulate n (λ (k : ℕ). begun_by (eqb k first) packet repeats (at nodes k)) j new p

  field : {A : Type 0} (f : Node → A) (g : Bool → A) (v : Node) → f (begun_by true packet repeats v) ≡ g true → f (begun_by false packet repeats v) ≡ g false
      → (c : Bool) → f (begun_by c packet repeats v) ≡ g c
  field f g v t e true = t
  field f g v t e false = e

  listening_then : (j : ℕ) → j < n → is_listening (at opened j) ≡ not (eqb j first)
  listening_then j p = ap is_listening (each j p) ∙ field is_listening not (at nodes j) refl refl (eqb j first)

  flooding_then : (j : ℕ) → j < n → is_flooding (at opened j) ≡ eqb j first
  flooding_then j p = ap is_flooding (each j p) ∙ field is_flooding (λ (c : Bool). c) (at nodes j) refl refl (eqb j first)

  same_count : (f : Node → ℕ) → ((v : Node) → f (begun_by true packet repeats v) ≡ f v) → ((v : Node) → f (begun_by false packet repeats v) ≡ f v)
      → sum_of f opened n ≡ sum_of f nodes n
  same_count f t e = sum_cong f nodes opened n (λ j p. ap f (each j p) ∙ field f (λ (c : Bool). f (at nodes j)) (at nodes j) (t (at nodes j)) (e (at nodes j)) (eqb j first))

  left_then : (j : ℕ) → j < n → is_flooding (at opened j) ≡ true → (at opened j).flood_remaining ≡ repeats
  left_then j p f = ap (λ (v : Node). v.flood_remaining) (each j p ∙ ap (λ (c : Bool). begun_by c packet repeats (at nodes j)) (sym (flooding_then j p) ∙ f))

  begun_queued : (e : List ℕ) → repeats ≤ length e → ((i : ℕ) → i < repeats → get_or e i 0 ≡ 0) → Queued n repeats (set e (repeats - 1) (2 ^ first)) 0 opened
  begun_queued e room none =
      record {
        place = some;
        room = omega (arith, room, length-set e (repeats - 1) (2 ^ first));
        left = λ j p f. let r = left_then j p f in (omega (arith, r), omega (arith, r));
        stand = λ i j l p. stands i j l p (two (eqb i (repeats - 1))) (two (is_flooding (at opened j)));
      }
    where
      here : (i : ℕ) → i < repeats → place_after repeats 0 i ≡ i
      here i l = ap (λ (c : Bool). cond c (0 + i) (0 + i - repeats)) (lt-ltb (0 + i) repeats (omega (arith, l))) ∙ zero-add i

      empty : (i j : ℕ) → i < repeats → (i ≡ repeats - 1 → ⊥) → has (get_or (set e (repeats - 1) (2 ^ first)) i 0) j ≡ false
      empty i j l ne =
          ap (λ (v : ℕ). has v j)
          (get_or-set_other e (repeats - 1) i (2 ^ first) 0 ne ∙ none i l)
          ∙ has_zero j

      stands : (i j : ℕ) → i < repeats → j < n → (eqb i (repeats - 1) ≡ true) ⊎ (eqb i (repeats - 1) ≡ false) → (is_flooding (at opened j) ≡ true) ⊎ (is_flooding (at opened j) ≡ false)
          → has (get_or (set e (repeats - 1) (2 ^ first)) (place_after repeats 0 i) 0) j ≡ is_flooding (at opened j) && eqb (at opened j).flood_remaining (i + 1)
      stands i j l p (inl u) w =
          ap (λ (k : ℕ). has (get_or (set e (repeats - 1) (2 ^ first)) k 0) j) (here i l ∙ eqb-true i (repeats - 1) u)
          ∙ ap (λ (v : ℕ). has v j) (get_or-set_same e (repeats - 1) (2 ^ first) 0 (omega (arith, some, room)))
          ∙ has_one n first j few p
          ∙ sym (flooding_then j p)
          ∙ ⊎_elim (λ f. f ∙ sym (ap₂ ◌&&◌ f (eq-eqb (at opened j).flood_remaining (i + 1) (omega (arith, left_then j p f, eqb-true i (repeats - 1) u, some))))) (λ f. f ∙ sym (ap (λ (c : Bool). c && eqb (at opened j).flood_remaining (i + 1)) f)) w
      stands i j l p (inr u) (inl f) =
          ap (λ (k : ℕ). has (get_or (set e (repeats - 1) (2 ^ first)) k 0) j) (here i l)
          ∙ empty i j l (eqb-false i (repeats - 1) u)
          ∙ sym (ap₂ ◌&&◌ f (ne_eqb (at opened j).flood_remaining (i + 1) (λ z. absurd (eqb-false i (repeats - 1) u (omega (arith, z, left_then j p f))))))
      stands i j l p (inr u) (inr f) =
          ap (λ (k : ℕ). has (get_or (set e (repeats - 1) (2 ^ first)) k 0) j) (here i l)
          ∙ empty i j l (eqb-false i (repeats - 1) u)
          ∙ sym (ap (λ (c : Bool). c && eqb (at opened j).flood_remaining (i + 1)) f)

  begun_stands : Stands n (begun_flood n first x) b₀ b (with_nodes opened s)
  begun_stands =
      record {
        listening = sym (all_but n first few) ∙ set_of_cong n (λ j p. sym (listening_then j p));
        flooding = sym (set_of_one n first few) ∙ set_of_cong n (λ j p. sym (flooding_then j p));
        listens = st.listens ∙ sym (same_count (λ (v : Node). v.slots_listen) (λ v. refl) (λ v. refl));
        floods = st.floods ∙ sym (same_count (λ (v : Node). v.slots_flood) (λ v. refl) (λ v. refl));
        sleeps = st.sleeps ∙ sym (same_count (λ (v : Node). v.slots_sleep) (λ v. refl) (λ v. refl));
        counted = λ j p. total_begun n repeats first packet nodes j p ∙ st.counted j p;
        attempts = st.attempts;
        successes = st.successes;
        slot = st.slot;
        shots = st.shots;
      }

-- the same of what the code's begin gave
pub opens : (g : Settings) (first : ℕ) (packet : Packet) {x y : Radios} {e₀ e e' : List ℕ} {w : Stream} {b₀ b : List ℕ} {s : Standing} → CanBegin g first → g.repeats ≤ length e₀
    → Emptied g.repeats e₀ e → Begins g first x e y e' → Stands g.nodes x b₀ b s
    → InSlot g 0 y (tables e' w b) b₀ (with_nodes (begun g.nodes g.repeats first packet s.nodes) s)
opens g first packet {x} {y} {e₀} {e} {e'} {w} {b₀} {b} {s} can room emptied begins st =
    let n = g.nodes in
    record {
      stands = subst⁻¹ (λ (z : Radios). Stands n z b₀ b (with_nodes (begun n g.repeats first packet s.nodes) s)) begins.flood
          (begun_stands n g.repeats first packet x b₀ b s can.node can.repeats.0 st);
      queued = subst⁻¹ (λ (m : List ℕ). Queued n g.repeats m 0 (begun n g.repeats first packet s.nodes)) begins.queue
          (begun_queued n g.repeats first packet x b₀ b s can.node can.repeats.0 st e (omega (arith, room, emptied.size)) emptied.empty);
    }

-- ---- a round ends
module _ (n first : ℕ) (packet : Packet) (x : Radios) (b₀ b : List ℕ) (s : Standing) (st : Stands n x b₀ b s) where
  abbrev awake : ℕ
  awake = bit_or x.awake.listening x.awake.flooding

  abbrev given : List Node
  given = delivered n packet s.nodes

  got : (j : ℕ) → j < n → at given j ≡ delivered_to packet (at s.nodes j)
  unfolding delivered
  got j p = get_d_tabulate n (λ (k : ℕ). delivered_to packet (at s.nodes k)) j new p

  same_state : (j : ℕ) → j < n → (at given j).state ≡ (at s.nodes j).state
  same_state j p = ap (λ (v : Node). v.state) (got j p) ∙ delivered_state packet (at s.nodes j)

  asleep : (j : ℕ) → j < n → not (has awake j) ≡ is_sleeping (at s.nodes j)
  asleep j p =
      ap not (has_or x.awake.listening x.awake.flooding j ∙ ap₂ ◌||◌ (ap (λ (k : ℕ). has k j) st.listening ∙ has_set_of n _ j p) (ap (λ (k : ℕ). has k j) st.flooding ∙ has_set_of n _ j p))
      ∙ three (at s.nodes j).state
    where
      three : (q : NodeState) → not (listens q || floods q) ≡ sleeps q
      three Listen = refl
      three Flood = refl
      three Sleep = refl

  field_of : {A : Type 0} (f : Node → A) (v : Node) → f (holding packet v) ≡ f v → f (delivered_to packet v) ≡ f v
  field_of f v e = go (is_sleeping v)
    where
      go : (c : Bool) → f (cond c (holding packet v) v) ≡ f v
      go true = e
      go false = refl

  same_sum : (f : Node → ℕ) → ((v : Node) → f (holding packet v) ≡ f v) → sum_of f given n ≡ sum_of f s.nodes n
  same_sum f e = sum_cong f s.nodes given n (λ j p. ap f (got j p) ∙ field_of f (at s.nodes j) (e (at s.nodes j)))

  pub delivered_stands : Stands n x b₀ b (with_nodes given s)
  delivered_stands =
      record {
        listening = st.listening ∙ set_of_cong n (λ j p. ap listens (sym (same_state j p)));
        flooding = st.flooding ∙ set_of_cong n (λ j p. ap floods (sym (same_state j p)));
        listens = st.listens ∙ sym (same_sum (λ (v : Node). v.slots_listen) (λ v. refl));
        floods = st.floods ∙ sym (same_sum (λ (v : Node). v.slots_flood) (λ v. refl));
        sleeps = st.sleeps ∙ sym (same_sum (λ (v : Node). v.slots_sleep) (λ v. refl));
        counted = λ j p. total_delivered n packet s.nodes j p ∙ st.counted j p;
        attempts = st.attempts;
        successes = st.successes;
        slot = st.slot;
        shots = st.shots;
      }

  pub delivered_part : set_of n (λ (k : ℕ). eqb k first || not (has awake k)) ≡ participants n first given
  unfolding participants
  delivered_part = set_of_cong n (λ j p. ap (λ (c : Bool). eqb j first || c) (asleep j p ∙ ap sleeps (sym (same_state j p))))

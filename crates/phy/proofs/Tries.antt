-- Attempts, successes and who is reached: in a slot, in a round. Assumes nothing.
use Prim.Native.Nat.{ℕ, zero, suc, ◌+◌, ◌*◌, ◌≤◌, ◌<◌, zero-le}
use mathlib.Core.Path.{◌≡◌, refl, sym, ap, ap₂, subst, ◌∙◌}
use mathlib.Core.Bool.{Bool, true, false, cond, ◌&&◌}
use mathlib.Core.List.{List, [], ◌∷◌}
use mathlib.Core.Logic.{⊎_elim}
use native.Mathlib.Nat.{add-zero, le_refl, le_dest}
use native.Mathlib.Omega.{arith}
use lib.Dec.{ltb}
use lib.ListN.{length, length-append}
use Rattle.network.specs.Graph.{linked, count}
use Rattle.network.proofs.Sets.{two, count_le}
use Rattle.phy.specs.declared.node.Node.{Node}
use Rattle.phy.specs.declared.packet.Packet.{Packet}
use Rattle.phy.specs.Node.{is_listening, is_flooding}
use Rattle.phy.specs.Slot.{Setup, Standing, Tries, at, how_many, among, receivers, attempt_by, attempt, attempt_all, ticked, tries_in, slot_step}
use Rattle.phy.specs.Round.{begun, with_nodes, slots, round}
use Rattle.phy.proofs.Nodes.{count_cong}
use Rattle.phy.proofs.Rounds.{slots_more, slots_last}
use Rattle.phy.proofs.Count.{count_split, count_first, count_full, count_all}
use Rattle.phy.proofs.Counts.{along_slots}

-- ---- how many receivers there are
-- as many are listed as there are
pub length_among : (n : ℕ) (f : ℕ → Bool) → length (among n f) ≡ count n f
unfolding among count
length_among zero f = refl
length_among (suc n) f = length-append (among n f) (cond (f n) (n ∷ []) []) ∙ ap₂ ◌+◌ (length_among n f) (one (f n))
  where
    one : (b : Bool) → length (cond b (n ∷ []) []) ≡ cond b 1 0
    one true = refl
    one false = refl

-- each of m nodes has at most n receivers
pub receivers_few : (rows : List ℕ) (floods listens : ℕ → Bool) (n m : ℕ) → length (receivers rows floods listens n m) ≤ m * n
unfolding receivers
receivers_few rows floods listens n zero = omega arith
receivers_few rows floods listens n (suc m) =
    omega (arith, length-append (receivers rows floods listens n m) (cond (floods m) theirs []), receivers_few rows floods listens n m, one (floods m))
  where
    theirs : List ℕ
    theirs = among n (λ (j : ℕ). linked rows m j && listens j)

    one : (b : Bool) → length (cond b theirs []) ≤ n
    one true = omega (arith, length_among n (λ (j : ℕ). linked rows m j && listens j), count_le n (λ (j : ℕ). linked rows m j && listens j))
    one false = zero-le

-- the receivers of a slot
abbrev pub tried_in : Setup → List Node → List ℕ
tried_in g nodes = receivers g.rows (λ (j : ℕ). is_flooding (at nodes j)) (λ (j : ℕ). is_listening (at nodes j)) g.nodes g.nodes

-- at most n² a slot
pub tried_few : (g : Setup) (nodes : List Node) → length (tried_in g nodes) ≤ g.nodes * g.nodes
tried_few g nodes = receivers_few g.rows _ _ g.nodes g.nodes

-- ---- attempts in order
attempts_one : (b : Bool) (t : Tries) (j : ℕ) → (attempt_by b t j).attempts ≡ t.attempts + 1
attempts_one true t j = refl
attempts_one false t j = refl

-- one attempt for each receiver
pub attempts_all : (h : ℕ → Bool) (t : Tries) (js : List ℕ) → (attempt_all h t js).attempts ≡ t.attempts + length js
unfolding attempt_all attempt
attempts_all h t [] = sym (add-zero t.attempts)
attempts_all h t (j ∷ js) = omega (arith, attempts_all h (attempt h t j) js, attempts_one (h t.attempts) t j)

-- successes grow by as many as are heard
pub successes_all : (h : ℕ → Bool) (t : Tries) (js : List ℕ) → (attempt_all h t js).successes ≡ t.successes + count (length js) (λ (k : ℕ). h (t.attempts + k))
unfolding attempt_all attempt count
successes_all h t [] = sym (add-zero t.successes)
successes_all h t (j ∷ js) =
    let done : Tries = attempt h t j in
    let later : count (length js) (λ (k : ℕ). h (done.attempts + k)) ≡ count (length js) (λ (k : ℕ). h (t.attempts + suc k))
    = count_cong (length js) _ _ (λ k b. ap h (omega (arith, attempts_one (h t.attempts) t j))) in
    omega (arith, successes_all h done js, later, more (h t.attempts), count_first (length js) (λ (k : ℕ). h (t.attempts + k)), ap {B = ℕ} (λ (k : ℕ). cond (h k) 1 0) (add-zero t.attempts))
  where
    more : (b : Bool) → (attempt_by b t j).successes ≡ t.successes + cond b 1 0
    more true = refl
    more false = sym (add-zero t.successes)

-- the attempts of a slot: one for each receiver
pub attempts_in : (g : Setup) (nodes : List Node) (attempts successes : ℕ) → (tries_in g nodes attempts successes).attempts ≡ attempts + length (tried_in g nodes)
unfolding tries_in
attempts_in g nodes attempts successes = attempts_all g.heard _ (tried_in g nodes)

-- and its successes: as many as are heard
pub successes_in : (g : Setup) (nodes : List Node) (attempts successes : ℕ)
    → (tries_in g nodes attempts successes).successes ≡ successes + count (length (tried_in g nodes)) (λ (k : ℕ). g.heard (attempts + k))
unfolding tries_in
successes_in g nodes attempts successes = successes_all g.heard _ (tried_in g nodes)

-- ---- From s to t some attempts were made, at most n² in a slot, and as many of them succeeded as were heard.
pub record Tallied (n : ℕ) (heard : ℕ → Bool) (s t : Standing) : Type 0 where
  pub made : ℕ
  pub attempts : t.attempts ≡ s.attempts + made
  pub successes : t.successes ≡ s.successes + count made (λ (k : ℕ). heard (s.attempts + k))
  pub few : t.attempts + n * n * s.slot ≤ s.attempts + n * n * t.slot

-- it holds of no step, of one step after another, of a slot, of a round's slots, and of a round
pub tallied_none : (n : ℕ) (heard : ℕ → Bool) (s : Standing) → Tallied n heard s s
unfolding count
tallied_none n heard s = record { made = 0; attempts = sym (add-zero s.attempts); successes = sym (add-zero s.successes); few = le_refl _ }

pub tallied_then : {n : ℕ} {heard : ℕ → Bool} {s t u : Standing} → Tallied n heard s t → Tallied n heard t u → Tallied n heard s u
tallied_then {n} {heard} {s} {t} {u} a b =
    record {
      made = a.made + b.made;
      attempts = omega (arith, a.attempts, b.attempts);
      successes =
          let more : count b.made (λ (k : ℕ). heard (t.attempts + k)) ≡ count b.made (λ (k : ℕ). heard (s.attempts + (a.made + k)))
          = count_cong b.made _ _ (λ k h. ap heard (omega (arith, a.attempts))) in
          omega (arith, a.successes, b.successes, more, count_split a.made b.made (λ (k : ℕ). heard (s.attempts + k)));
      few = omega (arith, a.few, b.few);
    }

pub tallied_slot : (g : Setup) (s : Standing) → Tallied g.nodes g.heard s (slot_step g s)
unfolding slot_step
tallied_slot g s =
    let nodes : List Node = ticked g.nodes s.nodes in
    record {
      made = length (tried_in g nodes);
      attempts = attempts_in g nodes s.attempts s.successes;
      successes = successes_in g nodes s.attempts s.successes;
      few = omega (arith, attempts_in g nodes s.attempts s.successes, tried_few g nodes);
    }

pub tallied_slots : (g : Setup) (left : ℕ) (s : Standing) → Tallied g.nodes g.heard s (slots g left s)
tallied_slots g =
    along_slots g (Tallied g.nodes g.heard) (tallied_none g.nodes g.heard) (λ s t more. tallied_then (tallied_slot g s) more)

pub tallied_round : (g : Setup) (longest initiator : ℕ) (packet : Packet) (s : Standing) → Tallied g.nodes g.heard s (round g longest initiator packet s).after
unfolding round
tallied_round g longest initiator packet s =
    let r = tallied_slots g longest (with_nodes (begun g.nodes g.repeats initiator packet s.nodes) s) in
    record { made = r.made; attempts = r.attempts; successes = r.successes; few = r.few }

-- no attempt between two standings is lost; and attempts and successes grow by the same number
abbrev pub NoneLost : (ℕ → Bool) → Standing → Standing → Type 0
NoneLost heard s t = (k : ℕ) → s.attempts ≤ k → k < t.attempts → heard k ≡ true

abbrev pub Even : Standing → Standing → Type 0
Even s t = t.successes + s.attempts ≡ s.successes + t.attempts

module _ {n : ℕ} {heard : ℕ → Bool} {s t : Standing} (r : Tallied n heard s t) where
  -- attempts and successes never fall, and successes grow by no more than attempts
  pub attempts_grow : s.attempts ≤ t.attempts
  attempts_grow = omega (arith, r.attempts)

  pub successes_less : t.successes + s.attempts ≤ s.successes + t.attempts
  successes_less = omega (arith, r.attempts, r.successes, count_le r.made (λ (k : ℕ). heard (s.attempts + k)))

  -- successes stay at most attempts
  pub successes_most : s.successes ≤ s.attempts → t.successes ≤ t.attempts
  successes_most h = omega (arith, successes_less)

  -- where both grew by the same number, every attempt was heard
  pub all_heard : Even s t → NoneLost heard s t
  all_heard e k low high =
      let d = le_dest low in
      ap heard (omega (arith, d.1))
      ∙ count_full r.made (λ (i : ℕ). heard (s.attempts + i)) (omega (arith, e, r.attempts, r.successes)) d.0 (omega (arith, d.1, r.attempts))

  -- and the other way round
  pub none_lost : NoneLost heard s t → Even s t
  none_lost h =
      omega (arith, r.attempts, r.successes, count_all r.made (λ (i : ℕ). heard (s.attempts + i)) (λ k b. h (s.attempts + k) (omega arith) (omega (arith, r.attempts))))

-- a round's first slot makes no more attempts than the round
pub first_attempts : (g : Setup) (left : ℕ) (s : Standing) → (slot_step g s).attempts ≤ (slots g (suc left) s).attempts
first_attempts g left s =
    ⊎_elim (λ e. subst (λ (t : Standing). (slot_step g s).attempts ≤ t.attempts) (sym (slots_more g left s e)) (attempts_grow (tallied_slots g left (slot_step g s))))
    (λ e. subst (λ (t : Standing). (slot_step g s).attempts ≤ t.attempts) (sym (slots_last g left s e)) (le_refl (slot_step g s).attempts))
    (two (ltb 0 (how_many is_flooding (slot_step g s).nodes g.nodes)))

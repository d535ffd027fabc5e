-- Snapshots are taken exactly at the multiples of the interval, so their number is the slots divided by the interval, rounded up. Those that
-- were taken stay, and at most one is added a slot. Assumes nothing.
use Prim.Native.Nat.{ℕ, suc, ◌+◌, ◌-◌, ◌*◌, ◌/◌, ◌%◌, ◌≤◌, ◌<◌}
use mathlib.Core.Path.{◌≡◌, refl, sym, ap, subst, ◌∙◌}
use mathlib.Core.List.{List, [], ◌∷◌, ◌++◌, append-nil, append_assoc}
use mathlib.Core.Logic.{⊎_elim}
use native.Mathlib.Nat.{eq-or-lt_of_le, div-eq_of_lt-le, div-eq_of_eq-mul_left, div-add-mod', zero-mul, mul-mod_left}
use native.Mathlib.Omega.{arith}
use lib.ListN.{length, length-append}
use Rattle.phy.specs.declared.packet.Packet.{Packet}
use Rattle.phy.specs.Slot.{Setup, Standing, Shots, take_one, take_while, slot_step}
use Rattle.phy.specs.Round.{begun, with_nodes, slots, round}
use Rattle.phy.proofs.Counts.{along_slots}
use Rattle.phy.proofs.Snapshots.{none_due, one_due, one_more}

-- Before this slot the next snapshot is the first multiple of the interval that is not less than the slot.
pub record Due (interval slot : ℕ) (x : Shots) : Type 0 where
  pub multiple : x.next ≡ length x.taken * interval
  pub ahead : slot ≤ x.next
  pub near : x.next < slot + interval

-- as a run begins
pub due_none : (interval : ℕ) (x : Shots) → 1 ≤ interval → x.next ≡ 0 → length x.taken ≡ 0 → Due interval 0 x
due_none interval x pos e c = record { multiple = e ∙ sym (ap (λ (k : ℕ). k * interval) c ∙ zero-mul interval); ahead = omega arith; near = omega arith }

module _ (interval slot : ℕ) (x : Shots) (pos : 1 ≤ interval) (due : Due interval slot x) where
  -- the snapshots so far: the slots divided by the interval, rounded up
  pub due_count : length x.taken ≡ (slot + interval - 1) / interval
  due_count = sym (div-eq_of_lt-le interval (omega (arith, due.multiple, due.near)) (omega (arith, due.multiple, due.ahead)))

  -- the slot is a multiple of the interval exactly when it is the next snapshot's
  next_multiple : x.next ≡ slot → slot % interval ≡ 0
  next_multiple e = ap (λ (k : ℕ). k % interval) (sym e ∙ due.multiple) ∙ mul-mod_left (length x.taken) interval

  multiple_next : slot % interval ≡ 0 → x.next ≡ slot
  multiple_next e =
      let slot_is : slot / interval * interval ≡ slot = omega (arith, e, div-add-mod' slot interval) in
      let same : x.next / interval ≡ slot / interval
      = div-eq_of_lt-le interval (omega (arith, slot_is, due.ahead)) (omega (arith, slot_is, due.near)) in
      let count_is : length x.taken ≡ slot / interval = sym (div-eq_of_eq-mul_left pos due.multiple) ∙ same in
      due.multiple ∙ ap (λ (k : ℕ). k * interval) count_is ∙ slot_is

module _ (interval : ℕ) (shot : ℕ → List ℕ) (slot : ℕ) (x : Shots) (pos : 1 ≤ interval) (due : Due interval slot x) where
  -- a slot takes the one snapshot that is due
  one_taken : x.next ≡ slot → take_while interval shot slot (suc slot) x ≡ take_one interval shot x
  one_taken e =
      one_due interval shot slot slot x (omega arith)
      ∙ none_due interval shot slot slot (take_one interval shot x) (unfold take_one in omega arith)

  none_taken : slot < x.next → take_while interval shot slot (suc slot) x ≡ x
  none_taken h = none_due interval shot slot (suc slot) x h

  -- one snapshot is taken in a slot that is a multiple of the interval, and it shows this slot
  pub taken_at : slot % interval ≡ 0
      → take_while interval shot slot (suc slot) x ≡ record { next = slot + interval; taken = x.taken ++ (shot slot ∷ []) }
  unfolding take_one
  taken_at e =
      let q = multiple_next interval slot x pos due e in
      one_taken q ∙ ap (λ (k : ℕ). record { next = k + interval; taken = x.taken ++ (shot k ∷ []) }) q

  -- and none in another
  pub none_at : (slot % interval ≡ 0 → ⊥) → take_while interval shot slot (suc slot) x ≡ x
  none_at ne = ⊎_elim (λ e. absurd (ne (next_multiple interval slot x pos due (sym e)))) none_taken (eq-or-lt_of_le due.ahead)

  -- so what was taken stays, and at most one is added
  grown_slot : (more : List (List ℕ)) × ((take_while interval shot slot (suc slot) x).taken ≡ x.taken ++ more) × (length more ≤ 1)
  grown_slot =
      ⊎_elim
      (λ e. (shot x.next ∷ [], ap (λ (y : Shots). y.taken) (one_taken (sym e)) ∙ unfold take_one in refl, omega arith))
      (λ h. ([], ap (λ (y : Shots). y.taken) (none_taken h) ∙ sym (append-nil x.taken), omega arith))
      (eq-or-lt_of_le due.ahead)

  -- after the slot it holds of the next one
  pub due_slot : Due interval (slot + 1) (take_while interval shot slot (suc slot) x)
  due_slot =
      ⊎_elim
      (λ e.
      subst (Due interval (slot + 1)) (sym (one_taken (sym e)))
      (unfold take_one in record { multiple = ap (λ (k : ℕ). k + interval) due.multiple ∙ one_more (length x.taken) interval ∙ ap (λ (k : ℕ). k * interval) (sym (length-append x.taken (shot x.next ∷ []))); ahead = omega arith; near = omega arith }))
      (λ h. subst (Due interval (slot + 1)) (sym (none_taken h)) (record { multiple = due.multiple; ahead = omega arith; near = omega (arith, due.near) }))
      (eq-or-lt_of_le due.ahead)

-- ---- from slot to slot and round to round
pub due_step : (g : Setup) (s : Standing) → 1 ≤ g.interval → Due g.interval s.slot s.shots → Due g.interval (slot_step g s).slot (slot_step g s).shots
unfolding slot_step
due_step g s pos due = due_slot g.interval _ s.slot s.shots pos due

pub due_slots : (g : Setup) → 1 ≤ g.interval → (left : ℕ) (s : Standing) → Due g.interval s.slot s.shots → Due g.interval (slots g left s).slot (slots g left s).shots
due_slots g pos =
    along_slots g (λ s t. Due g.interval s.slot s.shots → Due g.interval t.slot t.shots) (λ s due. due) (λ s t more due. more (due_step g s pos due))

pub due_round : (g : Setup) (longest initiator : ℕ) (packet : Packet) (s : Standing) → 1 ≤ g.interval
    → Due g.interval s.slot s.shots → Due g.interval (round g longest initiator packet s).after.slot (round g longest initiator packet s).after.shots
unfolding round
due_round g longest initiator packet s pos due = due_slots g pos longest (with_nodes (begun g.nodes g.repeats initiator packet s.nodes) s) due

-- ---- what was taken stays, and at most one is added a slot
pub record Grown (s t : Standing) : Type 0 where
  pub more : List (List ℕ)
  pub grows : t.shots.taken ≡ s.shots.taken ++ more
  pub few : s.slot + length more ≤ t.slot

pub grown_none : (s : Standing) → Grown s s
grown_none s = record { more = []; grows = sym (append-nil s.shots.taken); few = omega arith }

pub grown_then : {s t u : Standing} → Grown s t → Grown t u → Grown s u
grown_then {s} a b =
    record {
      more = a.more ++ b.more;
      grows = b.grows ∙ ap (λ (l : List (List ℕ)). l ++ b.more) a.grows ∙ append_assoc s.shots.taken a.more b.more;
      few = omega (arith, a.few, b.few, length-append a.more b.more);
    }

grown_step : (g : Setup) (s : Standing) → 1 ≤ g.interval → Due g.interval s.slot s.shots → Grown s (slot_step g s)
unfolding slot_step
grown_step g s pos due =
    let one = grown_slot g.interval _ s.slot s.shots pos due in
    record { more = one.0; grows = one.1; few = omega (arith, one.2) }

pub grown_round : (g : Setup) (longest initiator : ℕ) (packet : Packet) (s : Standing) → 1 ≤ g.interval
    → Due g.interval s.slot s.shots → Grown s (round g longest initiator packet s).after
unfolding round
grown_round g longest initiator packet s pos due =
    let first : Standing = with_nodes (begun g.nodes g.repeats initiator packet s.nodes) s in
    let r = along_slots g (λ s t. Due g.interval s.slot s.shots → Grown s t) (λ s d. grown_none s)
    (λ s t more d. grown_then (grown_step g s pos d) (more (due_step g s pos d))) longest first due in
    record { more = r.more; grows = r.grows; few = r.few }

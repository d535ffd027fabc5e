-- What each node counts in a round: listening, flooding and sleeping slots together grow by the slots of the round. Assumes nothing.
use Prim.Native.Nat.{ℕ, zero, suc, ◌+◌, ◌*◌, ◌≤◌, ◌<◌}
use mathlib.Core.Path.{◌≡◌, refl, sym, subst, ap, ◌∙◌}
use mathlib.Core.List.{List}
use mathlib.Core.Logic.{⊎_elim}
use native.Mathlib.Omega.{arith}
use lib.Dec.{ltb}
use Rattle.network.proofs.Sets.{two}
use Rattle.phy.specs.declared.node.Node.{Node}
use Rattle.phy.specs.declared.packet.Packet.{Packet}
use Rattle.phy.specs.Node.{total, is_flooding}
use Rattle.phy.specs.Slot.{Setup, Standing, at, how_many, sum_of, ticked, tries_in, slot_step}
use Rattle.phy.specs.Round.{begun, with_nodes, slots, round}
use Rattle.phy.proofs.Nodes.{total_slot, total_begun, total_delivered}
use Rattle.phy.proofs.Rounds.{slots_more, slots_last}

-- ---- what holds of every step of a slot holds of the slots of a round
module _ (g : Setup) (R : Standing → Standing → Type 0) (same : (s : Standing) → R s s) (step : (s t : Standing) → R (slot_step g s) t → R s t) where
  pub along_slots : (left : ℕ) (s : Standing) → R s (slots g left s)
  unfolding slots
  along_slots zero s = same s
  along_slots (suc left) s =
      ⊎_elim (λ e. subst (R s) (sym (slots_more g left s e)) (step s (slots g left (slot_step g s)) (along_slots left (slot_step g s))))
      (λ e. subst (R s) (sym (slots_last g left s e)) (step s (slot_step g s) (same (slot_step g s))))
      (two (ltb 0 (how_many is_flooding (slot_step g s).nodes g.nodes)))

-- ---- the length of a round

pub slots_most : (g : Setup) (left : ℕ) (s : Standing) → (slots g left s).slot ≤ s.slot + left
unfolding slots slot_step
slots_most g zero s = omega arith
slots_most g (suc left) s =
    ⊎_elim (λ e. omega (arith, ap (λ (t : Standing). t.slot) (slots_more g left s e), slots_most g left (slot_step g s)))
    (λ e. omega (arith, ap (λ (t : Standing). t.slot) (slots_last g left s e)))
    (two (ltb 0 (how_many is_flooding (slot_step g s).nodes g.nodes)))

-- a round has at most its limit's slots
pub round_most : (g : Setup) (longest initiator : ℕ) (packet : Packet) (s : Standing) → (round g longest initiator packet s).after.slot ≤ s.slot + longest
unfolding round
round_most g longest initiator packet s = slots_most g longest (with_nodes (begun g.nodes g.repeats initiator packet s.nodes) s)

-- ---- one node's counts: from s to t they grow by the slots between
abbrev pub Counted : ℕ → Standing → Standing → Type 0
Counted n s t = (j : ℕ) → j < n → total (at t.nodes j) + s.slot ≡ total (at s.nodes j) + t.slot

pub counted_slot : (g : Setup) (s : Standing) → Counted g.nodes s (slot_step g s)
unfolding slot_step
counted_slot g s j h = omega (arith, total_slot g.nodes g.repeats (tries_in g (ticked g.nodes s.nodes) s.attempts s.successes).reached s.nodes j h)

pub counted_slots : (g : Setup) (left : ℕ) (s : Standing) → Counted g.nodes s (slots g left s)
counted_slots g =
    along_slots g (Counted g.nodes) (λ s j h. refl) (λ s t more j h. omega (arith, more j h, counted_slot g s j h))

pub counted_round : (g : Setup) (longest initiator : ℕ) (packet : Packet) (s : Standing) → Counted g.nodes s (round g longest initiator packet s).after
unfolding round
counted_round g longest initiator packet s j h =
    let first : Standing = with_nodes (begun g.nodes g.repeats initiator packet s.nodes) s in
    omega (
      arith,
      total_begun g.nodes g.repeats initiator packet s.nodes j h,
      counted_slots g longest first j h,
      total_delivered g.nodes packet (slots g longest first).nodes j h,
    )

-- ---- sums over the first n nodes

-- listening, flooding and sleeping slots of all nodes
abbrev pub all_slots : List Node → ℕ → ℕ
all_slots nodes n = sum_of (λ (v : Node). v.slots_listen) nodes n + sum_of (λ (v : Node). v.slots_flood) nodes n + sum_of (λ (v : Node). v.slots_sleep) nodes n

-- the three sums are the sum of the nodes' totals
pub all_total : (nodes : List Node) (n : ℕ) → all_slots nodes n ≡ sum_of total nodes n
unfolding sum_of
all_total nodes zero = refl
all_total nodes (suc n) = omega (arith, all_total nodes n)

-- where each of n nodes has f equal to k
pub sum_each : (f : Node → ℕ) (nodes : List Node) (n k : ℕ) → ((j : ℕ) → j < n → f (at nodes j) ≡ k) → sum_of f nodes n ≡ n * k
unfolding sum_of
sum_each f nodes zero k h = omega arith
sum_each f nodes (suc n) k h = omega (arith, sum_each f nodes n k (λ j b. h j (omega arith)), h n (omega arith))

-- where each of n nodes has f grown by k
pub sum_grown_alike : (f : Node → ℕ) (before after : List Node) (n k : ℕ) → ((j : ℕ) → j < n → f (at after j) ≡ f (at before j) + k) → sum_of f after n ≡ sum_of f before n + n * k
unfolding sum_of
sum_grown_alike f before after zero k h = omega arith
sum_grown_alike f before after (suc n) k h = omega (arith, sum_grown_alike f before after n k (λ j b. h j (omega arith)), h n (omega arith))

-- where each node has counted k slots
pub all_slots_lem : (nodes : List Node) (n k : ℕ) → ((j : ℕ) → j < n → total (at nodes j) ≡ k) → all_slots nodes n ≡ n * k
all_slots_lem nodes n k h = all_total nodes n ∙ sum_each total nodes n k h

-- over all nodes, listening, flooding and sleeping slots grow by nodes times slots
pub all_slots_round : (g : Setup) (longest initiator : ℕ) (packet : Packet) (s : Standing) (k : ℕ)
    → (round g longest initiator packet s).after.slot ≡ s.slot + k
    → all_slots (round g longest initiator packet s).after.nodes g.nodes ≡ all_slots s.nodes g.nodes + g.nodes * k
all_slots_round g longest initiator packet s k e =
    let after : Standing = (round g longest initiator packet s).after in
    all_total after.nodes g.nodes
    ∙ sum_grown_alike total s.nodes after.nodes g.nodes k (λ j h. omega (arith, e, counted_round g longest initiator packet s j h))
    ∙ ap (λ (x : ℕ). x + g.nodes * k) (sym (all_total s.nodes g.nodes))

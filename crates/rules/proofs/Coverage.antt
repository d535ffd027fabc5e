-- In every round of a run the covered nodes are those that took part. Assumes nothing.
use Rattle.std.specs.Prelude.{Option, Some, None}
use Prim.Native.Nat.{ℕ, suc, ◌+◌, ◌-◌, ◌%◌, ◌≤◌, ◌<◌}
use mathlib.Core.Bool.{Bool, true, false, cond}
use mathlib.Core.List.{List}
use mathlib.Core.Logic.{⊎_elim}
use mathlib.Core.Option.{some}
use mathlib.Core.Path.{◌≡◌, refl, sym, ap, ap₂, subst, ◌∙◌}
use native.Mathlib.Nat.{mod-lt, mod-eq_of_lt, mod-add-mod, mod-eq-sub-mod, eq-or-lt_of_le}
use native.Mathlib.Numerals.{add-one}
use native.Mathlib.Omega.{arith}
use lib.Dec.{ltb}
use lib.ListN.{get_elem?, get_or-replicate}
use borrow.Author.Tests.{ltb-true, ltb-false}
use Rattle.config.specs.Limits.{most_rounds}
use Rattle.network.specs.Graph.{has}
use Rattle.network.proofs.Sets.{two}
use Rattle.phy.specs.declared.node.Node.{Node}
use Rattle.phy.specs.declared.packet.Packet.{Packet}
use Rattle.phy.specs.Node.{new}
use Rattle.phy.specs.Packets.{same_packet, payload_is}
use Rattle.phy.specs.Slot.{Setup, at}
use Rattle.phy.specs.Round.{length_limit}
use Rattle.phy.proofs.Packets.{same_packet_equal}
use Rattle.phy.proofs.Coverage.{covered_are, covered_round}
use Rattle.phy.proofs.Payloads.{part_others, payload_round}
use Rattle.protocol.specs.Turns.{announce, initiator_turn}
use Rattle.pipeline.specs.Round.{initiator_of, prepare_round}
use Rattle.rules.specs.Run.{Given, Past, Running, begin, setup_of, prepared_in, flooded_in, past_in, run_round, run_for}
use Rattle.rules.specs.Coverage.{SameNodes, CoveredTookPart, SameCounts}
use Rattle.rules.proofs.Ends.{along_rounds}
use Rattle.rules.proofs.Votes.{initiators_differ}
use Rattle.rules.proofs.ExactRun.{elem_snoc}

-- ---- what nodes hold

-- Node j of n holds the packet q after k rounds: it is that of a round since which j has started none.
record KeptFrom (n k j : ℕ) (q : Packet) : Type 0 where
  round : ℕ
  past : round < k
  sender : q.sender.0 ≡ initiator_of n round
  since : (m : ℕ) → round < m → m < k → initiator_of n m ≡ j → ⊥

-- what node j may hold after k rounds
abbrev held_from : ℕ → ℕ → ℕ → Option Packet → Type 0
held_from n k j None = Unit {0}
held_from n k j (Some q) = KeptFrom n k j q

-- what all n nodes may hold after k rounds
abbrev HeldPackets : ℕ → ℕ → List Node → Type 0
HeldPackets n k nodes = (j : ℕ) → j < n → held_from n k j (at nodes j).payload

-- between two rounds of one initiator every other node starts one
between : (n a k j : ℕ) → a < k → a % n ≡ k % n → j < n → (j ≡ a % n → ⊥) → (m : ℕ) × (a < m) × (m < k) × (m % n ≡ j)
between n a k j l e h ne = go (ltb j (a % n)) refl
  where
    -- at least n rounds apart
    far : n ≤ k - a
    far =
        ⊎_elim (λ p. absurd (initiators_differ n a (k - a) (omega arith) (ltb-true (k - a) n p) (e ∙ ap (λ (x : ℕ). x % n) whole)))
        (ltb-false (k - a) n) (two (ltb (k - a) n))
      where
        whole : k ≡ a + (k - a)
        whole = omega arith

    -- d rounds after a
    after : (d : ℕ) → 0 < d → d < n → (a % n + d) % n ≡ j → (m : ℕ) × (a < m) × (m < k) × (m % n ≡ j)
    after d pos few q = (a + d, omega arith, omega (arith, far), sym (mod-add-mod a n d) ∙ q)

    go : (b : Bool) → ltb j (a % n) ≡ b → (m : ℕ) × (a < m) × (m < k) × (m % n ≡ j)
    go true p =
        let b : j < a % n = ltb-true j (a % n) p in
        let low : a % n < n = mod-lt a (omega arith) in
        let d : ℕ = j + n - a % n in
        let w : a % n + d - n ≡ j = omega arith in
        after d (omega arith) (omega arith) (mod-eq-sub-mod {n = a % n + d} (omega arith) ∙ ap (λ (x : ℕ). x % n) w ∙ mod-eq_of_lt h)
    go false p =
        let b : a % n ≤ j = ltb-false j (a % n) p in
        let w : a % n + (j - a % n) ≡ j = omega arith in
        after (j - a % n) (omega (arith, ne)) (omega (arith, b)) (ap (λ (x : ℕ). x % n) w ∙ mod-eq_of_lt h)

-- the packet of round k names its initiator
sent_by : (g : Given) (k : ℕ) (r : Running) → (prepared_in g k r).packet.sender.0 ≡ initiator_of g.nodes k
unfolding prepare_round initiator_turn announce
sent_by g k r = refl

-- so a packet that another node has kept is not that of round k
kept_other : (n k j : ℕ) (packet : Packet) (old : Option Packet) → packet.sender.0 ≡ initiator_of n k → j < n → (j ≡ initiator_of n k → ⊥) → held_from n k j old
    → payload_is packet old ≡ false
kept_other n k j packet None from h ne held = refl
kept_other n k j packet (Some q) from h ne held =
    ⊎_elim
    (λ e.
    let same : held.round % n ≡ k % n = sym held.sender ∙ ap (λ (p : Packet). p.sender.0) (sym (same_packet_equal packet q e)) ∙ from in
    let m = between n held.round k j held.past same h (λ p. ne (p ∙ same)) in
    absurd (held.since m.0 m.1 m.2 m.3))
    (λ e. e)
    (two (same_packet packet q))

-- what node j holds a round later; b says whether it took part
kept_on : (n k j : ℕ) (packet : Packet) (old : Option Packet) (b : Bool) → packet.sender.0 ≡ initiator_of n k → (b ≡ false → j ≡ initiator_of n k → ⊥) → held_from n k j old
    → held_from n (k + 1) j (cond b (Some packet) old)
kept_on n k j packet old true from ne held = record { round = k; past = omega arith; sender = from; since = λ m l u. absurd (omega arith) }
kept_on n k j packet None false from ne held = tt
kept_on n k j packet (Some q) false from ne held =
    record {
      round = held.round;
      past = omega (arith, held.past);
      sender = held.sender;
      since = λ m l u e. ⊎_elim (λ p. ne refl (sym e ∙ ap (initiator_of n) p)) (λ b. held.since m l b e) (eq-or-lt_of_le (omega arith));
    }

held_begin : (g : Given) → HeldPackets g.nodes 0 (begin g).standing.nodes
held_begin g j h = rw (get_or-replicate g.nodes j new new h) tt

-- ---- round k
module _ (g : Given) (k : ℕ) (r : Running) (held : HeldPackets g.nodes k r.standing.nodes) where
  abbrev setup : Setup
  setup = setup_of g r.shared

  abbrev most : ℕ
  most = length_limit g.round_slots g.diameter g.repeats

  abbrev packet : Packet
  packet = (prepared_in g k r).packet

  held_round : HeldPackets g.nodes (k + 1) (run_round g k r).standing.nodes
  unfolding run_round
  held_round j h =
      rw (payload_round setup most (initiator_of g.nodes k) packet r.standing j h)
      (kept_on g.nodes k j packet (at r.standing.nodes j).payload (has (flooded_in g k r).part j) (sent_by g k r)
      (part_others setup most (initiator_of g.nodes k) packet r.standing j h) (held j h))

  same_nodes : SameNodes g.nodes (past_in g k r)
  same_nodes =
      record {
        nodes = covered_are setup most (initiator_of g.nodes k) packet r.standing others;
        number = covered_round setup most (initiator_of g.nodes k) packet r.standing others;
      }
    where
      others : (j : ℕ) → j < g.nodes → (j ≡ initiator_of g.nodes k → ⊥) → payload_is packet (at r.standing.nodes j).payload ≡ false
      others j h ne = kept_other g.nodes k j packet (at r.standing.nodes j).payload (sent_by g k r) h ne (held j h)

-- ---- all rounds of a run

-- after k rounds
record Covered (g : Given) (k : ℕ) (r : Running) : Type 0 where
  held : HeldPackets g.nodes k r.standing.nodes
  past : (i : ℕ) (p : Past) → get_elem? r.rounds i ≡ some p → SameNodes g.nodes p
  same : r.covered ≡ r.took_part

covered_none : (g : Given) → Covered g 0 (begin g)
covered_none g = record { held = held_begin g; past = λ i p e. absurd (let z : ◌≡◌ {A = ℕ} 0 1 = cc in omega arith); same = refl }

covered_next : (g : Given) (k : ℕ) (r : Running) → Covered g k r → Covered g (suc k) (run_round g k r)
unfolding run_round
covered_next g k r now =
    record {
      held = subst (λ (m : ℕ). HeldPackets g.nodes m (run_round g k r).standing.nodes) (add-one k) (held_round g k r now.held);
      past = λ i p e.
          ⊎_elim (now.past i p) (λ w. subst (SameNodes g.nodes) w.1 (same_nodes g k r now.held))
          (elem_snoc r.rounds _ i p e);
      same = ap₂ ◌+◌ now.same (same_nodes g k r now.held).number;
    }

pub covered_took_part : CoveredTookPart
unfolding run_for
covered_took_part g k p e =
    (along_rounds g (Covered g) (covered_next g) (most_rounds g.proposals) 0 (begin g) (covered_none g)).holds.past k p e

pub same_counts : SameCounts
unfolding run_for
same_counts g most = (along_rounds g (Covered g) (covered_next g) most 0 (begin g) (covered_none g)).holds.same

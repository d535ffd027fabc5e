-- A flood in which nothing is lost, seen from one node at distance d from the initiator: before slot k of the round it listens if
-- k < d, floods with d + r - k repeats left if d ≤ k < d + r, and sleeps otherwise. Assumes nothing.
use Prim.Native.Nat.{ℕ, suc, ◌+◌, ◌-◌, ◌≤◌, ◌<◌}
use mathlib.Core.Path.{◌≡◌, refl, sym, ap, subst}
use mathlib.Core.Bool.{Bool, true, false, cond}
use mathlib.Core.Logic.{⊎_elim}
use native.Mathlib.Nat.{eq-or-lt_of_le}
use native.Mathlib.Omega.{arith}
use lib.Dec.{eqb}
use borrow.Author.Tests.{eqb-true, eqb-false}
use Rattle.network.proofs.Sets.{two, never}
use Rattle.phy.specs.declared.node.Node.{Node}
use Rattle.phy.specs.declared.node.NodeState.TheVariants.{Listen, Flood, Sleep}
use Rattle.phy.specs.Node.{in_state, tick, tick_in, transition, transition_in, listens, floods, is_listening, is_flooding}
use Rattle.phy.proofs.Nodes.{onward_is}

-- v₀ is the node before the round, v before slot k of it
pub data Phase (v₀ : Node) (d r k : ℕ) (v : Node) : Type 0 where
  listening : k < d → v.state ≡ Listen
      → v.slots_listen ≡ v₀.slots_listen + k → v.slots_flood ≡ v₀.slots_flood → v.slots_sleep ≡ v₀.slots_sleep → Phase v₀ d r k v
  flooding : d ≤ k → k < d + r → v.state ≡ Flood → v.flood_remaining + k ≡ d + r
      → v.slots_listen ≡ v₀.slots_listen + d → v.slots_flood + d ≡ v₀.slots_flood + k → v.slots_sleep ≡ v₀.slots_sleep → Phase v₀ d r k v
  sleeping : d + r ≤ k → v.state ≡ Sleep
      → v.slots_listen ≡ v₀.slots_listen + d → v.slots_flood ≡ v₀.slots_flood + r → v.slots_sleep + (d + r) ≡ v₀.slots_sleep + k → Phase v₀ d r k v

-- one slot, for a node that hears exactly in the slot before its distance
pub phase_slot : {v₀ : Node} {d r k : ℕ} {v : Node} (heard : Bool) → 1 ≤ r → (suc k ≡ d → heard ≡ true) → (suc k < d → heard ≡ false)
    → Phase v₀ d r k v → Phase v₀ d r (suc k) (transition r heard (tick v))
phase_slot {v₀} {d} {r} {k} {v} heard pos hears deaf (listening before e l f s) =
    subst (Phase v₀ d r (suc k)) (sym (onward_is r heard v Listen e))
    (⊎_elim
    (λ p. subst (λ (b : Bool). Phase v₀ d r (suc k) (transition_in Listen r b (tick_in Listen v))) (sym (hears p)) (flooding (omega arith) (omega arith) refl (omega arith) (omega arith) (omega arith) s))
    (λ p. subst (λ (b : Bool). Phase v₀ d r (suc k) (transition_in Listen r b (tick_in Listen v))) (sym (deaf p)) (listening p e (omega arith) f s))
    (eq-or-lt_of_le before))
phase_slot {v₀} {d} {r} {k} {v} heard pos hears deaf (flooding low high e left l f s) =
    subst (Phase v₀ d r (suc k)) (sym (onward_is r heard v Flood e)) (⊎_elim (λ p. last p) (λ p. again p) (two (eqb (v.flood_remaining - 1) 0)))
  where
    end : Bool → Node
    end b = in_state (cond b Sleep Flood) (v.flood_remaining - 1) (tick_in Flood v)

    last : eqb (v.flood_remaining - 1) 0 ≡ true → Phase v₀ d r (suc k) (transition_in Flood r heard (tick_in Flood v))
    last p =
        let none : v.flood_remaining - 1 ≡ 0 = eqb-true (v.flood_remaining - 1) 0 p in
        subst (λ (b : Bool). Phase v₀ d r (suc k) (end b)) (sym p) (sleeping (omega arith) refl l (omega arith) (omega arith))

    again : eqb (v.flood_remaining - 1) 0 ≡ false → Phase v₀ d r (suc k) (transition_in Flood r heard (tick_in Flood v))
    again p =
        let some : v.flood_remaining - 1 ≡ 0 → ⊥ = eqb-false (v.flood_remaining - 1) 0 p in
        let more : suc k < d + r = omega arith in
        subst (λ (b : Bool). Phase v₀ d r (suc k) (end b)) (sym p) (flooding (omega arith) more refl (omega arith) l (omega arith) s)
phase_slot {v₀} {d} {r} {k} {v} heard pos hears deaf (sleeping past e l f s) =
    subst (Phase v₀ d r (suc k)) (sym (onward_is r heard v Sleep e)) (sleeping (omega arith) e l f (omega arith))

-- ---- what a phase tells of the state
pub floods_then : {v₀ : Node} {d r k : ℕ} {v : Node} → Phase v₀ d r k v → d ≤ k → k < d + r → is_flooding v ≡ true
floods_then (listening before e l f s) low high = absurd (omega arith)
floods_then (flooding a b e left l f s) low high = ap floods e
floods_then (sleeping past e l f s) low high = absurd (omega arith)

pub floods_when : {v₀ : Node} {d r k : ℕ} {v : Node} → Phase v₀ d r k v → is_flooding v ≡ true → d ≤ k
floods_when (listening before e l f s) p = never p (ap floods e)
floods_when (flooding a b e left l f s) p = a
floods_when (sleeping past e l f s) p = never p (ap floods e)

pub listens_then : {v₀ : Node} {d r k : ℕ} {v : Node} → Phase v₀ d r k v → k < d → is_listening v ≡ true
listens_then (listening before e l f s) h = ap listens e
listens_then (flooding a b e left l f s) h = absurd (omega arith)
listens_then (sleeping past e l f s) h = absurd (omega arith)

-- a round's end for a node that sleeps
pub record Slept (v₀ : Node) (d r k : ℕ) (v : Node) : Type 0 where
  pub asleep : v.state ≡ Sleep
  pub listened : v.slots_listen ≡ v₀.slots_listen + d
  pub flooded : v.slots_flood ≡ v₀.slots_flood + r
  pub slept : v.slots_sleep + (d + r) ≡ v₀.slots_sleep + k

pub sleeps_then : {v₀ : Node} {d r k : ℕ} {v : Node} → Phase v₀ d r k v → 1 ≤ r → d + r ≤ k → Slept v₀ d r k v
sleeps_then (listening before e l f s) pos h = absurd (omega arith)
sleeps_then (flooding a b e left l f s) pos h = absurd (omega arith)
sleeps_then (sleeping past e l f s) pos h = record { asleep = e; listened = l; flooded = f; slept = s }

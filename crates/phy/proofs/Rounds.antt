-- When a round goes on, and when it ends. Assumes nothing.
use Prim.Native.Nat.{ℕ, zero, suc, ◌+◌, ◌^◌, ◌<◌}
use mathlib.Core.Path.{◌≡◌, refl, sym, ap, ap₂, ◌∙◌}
use mathlib.Core.Bool.{Bool, true, false, cond}
use mathlib.Core.List.{List}
use native.Mathlib.Omega.{arith}
use lib.Count.{ones}
use lib.Dec.{ltb}
use borrow.Author.Tests.{le-ltb, lt-ltb}
use Rattle.network.specs.Graph.{set_of, count}
use Rattle.network.proofs.Sets.{never, count_lt}
use Rattle.phy.specs.declared.node.Node.{Node}
use Rattle.phy.specs.Node.{is_flooding}
use Rattle.phy.specs.Slot.{Setup, Standing, at, how_many, slot_step}
use Rattle.phy.specs.Round.{slots}
use Rattle.phy.proofs.Nodes.{ones_set_of}

-- nobody is counted where the set is empty, and the other way round
set_of_uncounted : (n : ℕ) (f : ℕ → Bool) → count n f ≡ 0 → set_of n f ≡ 0
unfolding set_of count
set_of_uncounted zero f e = refl
set_of_uncounted (suc n) f e = ap₂ ◌+◌ (set_of_uncounted n f (omega (arith, e))) (empty (f n) (omega (arith, e)))
  where
    empty : (b : Bool) → ◌≡◌ {A = ℕ} (cond b 1 0) 0 → cond b (2 ^ n) 0 ≡ 0
    empty true p = absurd (omega (arith, p))
    empty false p = refl

module _ (n : ℕ) (nodes : List Node) (flooding : ℕ) (are : flooding ≡ set_of n (λ (j : ℕ). is_flooding (at nodes j))) where
  pub nobody : flooding ≡ 0 → ltb 0 (how_many is_flooding nodes n) ≡ false
  unfolding ones
  nobody e =
      let none : how_many is_flooding nodes n ≡ 0 = sym (ones_set_of n (λ (j : ℕ). is_flooding (at nodes j))) ∙ ap ones (sym are ∙ e) in
      le-ltb 0 (how_many is_flooding nodes n) (omega (arith, none))

  pub somebody : (flooding ≡ 0 → ⊥) → ltb 0 (how_many is_flooding nodes n) ≡ true
  somebody h = lt-ltb 0 (how_many is_flooding nodes n) (above (how_many is_flooding nodes n) (λ z. h (are ∙ set_of_uncounted n _ z)))
    where
      above : (k : ℕ) → (k ≡ 0 → ⊥) → 0 < k
      above zero q = absurd (q refl)
      above (suc k) q = omega arith

-- a node that floods is counted
pub flooder : (n : ℕ) (nodes : List Node) (a : ℕ) → a < n → is_flooding (at nodes a) ≡ true → ltb 0 (how_many is_flooding nodes n) ≡ true
flooder n nodes a ha e =
    lt-ltb 0 (how_many is_flooding nodes n)
    (omega (arith, count_lt n (λ _. false) (λ (i : ℕ). is_flooding (at nodes i)) (λ i l p. never p refl) a ha refl e))

module _ (g : Setup) (left : ℕ) (s : Standing) where
  pub slots_more : ltb 0 (how_many is_flooding (slot_step g s).nodes g.nodes) ≡ true → slots g (suc left) s ≡ slots g left (slot_step g s)
  unfolding slots
  slots_more e = rw (slots, e)

  pub slots_last : ltb 0 (how_many is_flooding (slot_step g s).nodes g.nodes) ≡ false → slots g (suc left) s ≡ slot_step g s
  unfolding slots
  slots_last e = rw (slots, e)

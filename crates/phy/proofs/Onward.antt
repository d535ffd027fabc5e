-- A round's slots one after the other: where the code has come to, and what one slot more gives. Assumes nothing.
use Prim.Native.Nat.{ℕ, suc, ◌+◌, ◌-◌, ◌≤◌}
use mathlib.Core.Path.{◌≡◌, sym, ap, subst, subst⁻¹, ◌∙◌}
use mathlib.Core.Bool.{Bool}
use mathlib.Core.List.{List}
use native.Mathlib.Omega.{arith}
use lib.ListN.{length}
use Rattle.random.specs.Reception.{Source}
use Rattle.phy.specs.declared.slot.Radios.{Radios}
use Rattle.phy.specs.declared.slot.Settings.{Settings}
use Rattle.phy.specs.Slot.{Standing, slot_step}
use Rattle.phy.specs.Round.{slots}
use Rattle.phy.specs.View.{Tables, as_setup, Sound, Stands, InSlot, Meets, place_after, Stepped, Slotted}
use Rattle.phy.proofs.Rounds.{nobody, somebody, slots_more, slots_last}

-- from x₀ and t₀ the code has come to x and t, with so many slots of the limit left
pub record Onward (g : Settings) (rows : List ℕ) (longest : ℕ) (x₀ : Radios) (t₀ : Tables) (x : Radios) (t : Tables) (more place : ℕ) : Type 0 where
  pub sound : Sound g x
  pub slots_left : x.slot.0 + more ≤ x₀.slot.0 + longest
  pub first : x.first_stored ≡ x₀.first_stored
  pub size : length t.snapshots ≡ length t₀.snapshots
  pub met : Meets g place x t
  pub source : (heard : ℕ → Bool) → Source g.rate heard x₀.attempts t₀.stream → Source g.rate heard x.attempts t.stream
  pub here : (heard : ℕ → Bool) → Source g.rate heard x₀.attempts t₀.stream → (b₀ : List ℕ) (s₀ : Standing) → InSlot g 0 x₀ t₀ b₀ s₀
      → (s : Standing) × InSlot g place x t b₀ s × (slots (as_setup g rows heard) more s ≡ slots (as_setup g rows heard) longest s₀)

-- one slot more
module _ {g : Settings} {rows : List ℕ} {longest : ℕ} {x₀ : Radios} {t₀ : Tables} {x : Radios} {t : Tables} {more place : ℕ} {r : Radios} {t' : Tables}
    (o : Onward g rows longest x₀ t₀ x t more place) (some : 1 ≤ more) (stepped : Stepped g rows place x t r t') where
  one : more ≡ suc (more - 1)
  one = omega (arith, some)

  met_next : Meets g (place_after g.repeats place 1) r t'
  met_next =
      let met = o.met in
      record {
        heard = met.heard;
        source = stepped.source met.heard met.source;
        first = met.first;
        standing = slot_step (as_setup g rows met.heard) met.standing;
        here = stepped.stands met.heard met.source met.first met.standing met.here;
      }

  pub onward : (r.awake.flooding ≡ 0 → ⊥) → length t'.snapshots ≡ length t.snapshots → {less p : ℕ} → less ≡ more - 1 → p ≡ place_after g.repeats place 1 → Onward g rows longest x₀ t₀ r t' less p
  onward floods same {less} {p} l e =
      subst⁻¹ (λ (k : ℕ). Onward g rows longest x₀ t₀ r t' k p) l
      (subst⁻¹ (Onward g rows longest x₀ t₀ r t' (more - 1)) e
      (record {
        sound = stepped.sound;
        slots_left = omega (arith, stepped.slots, o.slots_left, some);
        first = stepped.first ∙ o.first;
        size = same ∙ o.size;
        met = met_next;
        source = λ heard s. stepped.source heard (o.source heard s);
        here = λ heard source b₀ s₀ here₀.
            let setup = as_setup g rows heard in
            let old = o.here heard source b₀ s₀ here₀ in
            let new = stepped.stands heard (o.source heard source) b₀ old.0 old.1 in
            let goes = somebody g.nodes (slot_step setup old.0).nodes r.awake.flooding new.stands.flooding floods in
            (slot_step setup old.0, new, sym (slots_more setup (more - 1) old.0 goes) ∙ ap (λ (k : ℕ). slots setup k old.0) (sym one) ∙ old.2);
      }))

  pub ends : r.awake.flooding ≡ 0 → Slotted g rows longest x₀ t₀ r t'
  ends quiet =
      record {
        sound = stepped.sound;
        slots = omega (arith, stepped.slots, o.slots_left, some);
        first = stepped.first ∙ o.first;
        room = met_next.here.queued.room;
        source = λ heard s. stepped.source heard (o.source heard s);
        stands = λ heard source b₀ s₀ here₀.
            let setup = as_setup g rows heard in
            let old = o.here heard source b₀ s₀ here₀ in
            let new = (stepped.stands heard (o.source heard source) b₀ old.0 old.1).stands in
            let last = nobody g.nodes (slot_step setup old.0).nodes r.awake.flooding new.flooding quiet in
            subst (Stands g.nodes r b₀ t'.snapshots) (sym (slots_last setup (more - 1) old.0 last) ∙ ap (λ (k : ℕ). slots setup k old.0) (sym one) ∙ old.2) new;
      }

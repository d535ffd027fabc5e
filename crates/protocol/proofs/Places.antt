-- A list after a store, by place; tests on numbers. Assumes nothing.
use Prim.Native.Nat.{ℕ, ◌<◌}
use mathlib.Core.Bool.{Bool, true, false, cond}
use mathlib.Core.List.{List}
use mathlib.Core.Logic.{◌⊎◌, inl, inr}
use mathlib.Core.Path.{◌≡◌, refl, sym, subst}
use borrow.Author.Tests.{eqb-true, eqb-false, eq-eqb, ne_eqb}
use lib.Dec.{eqb}
use lib.ListN.{length, get_or, set}
use lib.Seq.{get_or-set_same, get_or-set_other}

pub either : (b : Bool) → (b ≡ true) ⊎ (b ≡ false)
either true = inl refl
either false = inr refl

pub eqb_sym : (a b : ℕ) → eqb a b ≡ eqb b a
eqb_sym a b = go (eqb b a) refl
  where
    go : (x : Bool) → eqb b a ≡ x → eqb a b ≡ x
    go true e = eq-eqb a b (sym (eqb-true b a e))
    go false e = ne_eqb a b (λ q. eqb-false b a e (sym q))

-- what stands at j after a store at i
pub get_d_set {ℓ} : {A : Type ℓ} (l : List A) (i j : ℕ) (a d : A) → i < length l → get_or (set l i a) j d ≡ cond (eqb j i) a (get_or l j d)
get_d_set {A} l i j a d h = go (eqb j i) refl
  where
    go : (x : Bool) → eqb j i ≡ x → get_or (set l i a) j d ≡ cond x a (get_or l j d)
    go true e = subst (λ (k : ℕ). get_or (set l i a) k d ≡ a) (sym (eqb-true j i e)) (get_or-set_same l i a d h)
    go false e = get_or-set_other l i j a d (eqb-false j i e)

-- by whether two numbers are the same
pub same_or : (P : Bool → Type 0) (j i : ℕ) → (j ≡ i → P true) → (eqb j i ≡ false → P false) → P (eqb j i)
same_or P j i f g = go (eqb j i) refl
  where
    go : (x : Bool) → eqb j i ≡ x → P x
    go true e = f (eqb-true j i e)
    go false e = g e

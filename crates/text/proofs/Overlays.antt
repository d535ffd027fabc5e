-- Texts laid behind each other. Assumes nothing.
use Prim.Native.Nat.{ℕ, suc, ◌+◌, ◌-◌, ◌*◌, ◌≤◌, ◌<◌}
use mathlib.Core.Path.{◌≡◌, refl, sym, ap, subst, ◌∙◌}
use mathlib.Core.List.{List, [], ◌∷◌, ◌++◌, append_assoc}
use native.Mathlib.Nat.{mul-suc, mul_comm, mul-le-mul_left, zero-add, le_antisymm}
use native.Mathlib.Numerals.{add-one}
use native.Mathlib.Omega.{arith}
use lib.ListN.{length, get_or, take, drop, set, length-append}
use lib.Seq.{sets, sets-eq, take-append_seam, take-suc}
use borrow.Rule.Slice.PartMut.{put_mid, Post-is}
use Rattle.text.specs.Text.{each}
use Rattle.text.specs.declared.overlay.Overlay.{Overlay}
use Rattle.text.specs.Overlay.{Lays, Written, Room}

sets_append : (l : List ℕ) (i : ℕ) (s t : List ℕ) → sets l i (s ++ t) ≡ sets (sets l i s) (i + length s) t
sets_append l i [] t = let e : i + 0 ≡ i = omega arith in rw e
sets_append l i (b ∷ s) t =
    let e : i + suc (length s) ≡ suc i + length s = omega arith in
    sets_append (set l i b) (suc i) s t ∙ ap (λ n. sets (sets (set l i b) (suc i) s) n t) (sym e)

-- a list up to a place, and one element more
pub take_more : (l : List ℕ) (i : ℕ) → i < length l → take (i + 1) l ≡ take i l ++ (get_or l i 0 ∷ [])
take_more l i inside = rw (add-one, take-suc l i 0 inside)

pub lays_nothing : (o : Overlay) → Lays 0 [] o o
lays_nothing o = record { contents = refl; place = omega arith; at_most = omega arith; same_buffer = refl }

pub lays_byte :
    {o o' : Overlay} {b : ℕ} → o'.out.now ≡ set o.out.now o.at b → o'.at ≡ o.at + 1 → o'.out.ghost_name ≡ o.out.ghost_name → Lays 1 (b ∷ []) o o'
lays_byte e p n = record { contents = e; place = p; at_most = omega arith; same_buffer = n }

-- one text behind another
pub ◌then◌ : {m m' : ℕ} {s t : List ℕ} {o o' o'' : Overlay} → Lays m s o o' → Lays m' t o' o'' → Lays (m + m') (s ++ t) o o''
◌then◌ {s = s} {t = t} {o = o} a b =
    record {
      contents = b.contents ∙ rw (a.contents, a.place) (sym (sets_append o.out.now o.at s t));
      place = omega (arith, a.place, b.place, length-append s t);
      at_most = omega (arith, length-append s t, a.at_most, b.at_most);
      same_buffer = b.same_buffer ∙ a.same_buffer;
    }

infixl 20 ◌then◌
module _ {m : ℕ} {s : List ℕ} {o o' : Overlay} (a : Lays m s o o') where
  -- how far a text reaches
  pub reach : o'.at ≤ o.at + m
  reach = omega (arith, a.place, a.at_most)

  -- another bound
  pub bounded : {m' : ℕ} → length s ≤ m' → Lays m' s o o'
  bounded h = record { contents = a.contents; place = a.place; at_most = h; same_buffer = a.same_buffer }

  pub within : {m' : ℕ} → m ≤ m' → Lays m' s o o'
  within h = bounded (omega (arith, a.at_most))

  -- a text from the buffer's start on, with what the buffer is when its loan ends
  pub whole : {after : List ℕ} → o.at ≡ 0 → after ≡ o'.out.now → Written m s o.out.now after o'.at
  whole start e =
      record {
        contents = e ∙ rw start at a.contents;
        sized = rw (a.place, start) (zero-add _);
        at_most = a.at_most;
      }

-- a text, and behind it what the buffer had there
pub front_sets : (l s : List ℕ) → length s ≤ length l → s ++ drop (length s) l ≡ sets l 0 s
front_sets l s h = sym (rw (sets-eq s l 0 (omega arith), zero-add (length s)) refl)

-- a text that is copied to a part of a buffer as long as it
pub part_sets : (l s : List ℕ) (at e : ℕ) → e ≡ at + length s → e ≤ length l → put_mid at (e - at) l s ≡ sets l at s
part_sets l s at e is fits =
    ap (λ (rest : List ℕ). take at l ++ (s ++ rest)) (Post-is at e l (omega (arith, is)) ∙ ap (λ (k : ℕ). drop k l) is)
    ∙ sym (append_assoc (take at l) s (drop (at + length s) l))
    ∙ sym (sets-eq s l at (omega (arith, is, fits)))

-- the text is at the buffer's start
pub front_is : (l s : List ℕ) → length s ≤ length l → take (length s) (sets l 0 s) ≡ s
front_is l s h = rw (sets-eq s l 0 (omega arith)) (take-append_seam s _)

pub written_text : {m : ℕ} {l l' s : List ℕ} {n : ℕ} → Written m s l l' n → length s ≤ length l → take n l' ≡ s
written_text {l = l} {s = s} a h = rw (a.contents, a.sized) (front_is l s h)

-- A loop that lays n texts of at most m bytes one after the other: the first i of them are laid.
pub record Listed (f : ℕ → List ℕ) (m n : ℕ) (o : Overlay) (i : ℕ) (o' : Overlay) : Type 0 where
  pub inside : i ≤ n
  pub laid : Lays (m * i) (each f i) o o'

-- its start, its step and its end
module _ {f : ℕ → List ℕ} {m n : ℕ} {o : Overlay} where
  pub each_none : Listed f m n o 0 o
  unfolding each
  each_none = record { inside = omega arith; laid = within (lays_nothing o) (omega arith) }

  module _ {i : ℕ} {o' : Overlay} (t : Listed f m n o i o') where
    pub each_more : {o'' : Overlay} → i < n → Lays m (f i) o' o'' → Listed f m n o (i + 1) o''
    unfolding each
    each_more h b = record { inside = omega arith; laid = rw (add-one i, mul-suc) (t.laid then b) }

    -- where there is room for the most texts, there is room for the next
    pub each_room : {most : ℕ} → i < n → n ≤ most → Room o.at (most * m) → Room o'.at m
    each_room {most} h b r =
        let far : m * (i + 1) ≤ m * most = mul-le-mul_left m (omega arith) in
        omega (arith, reach t.laid, mul-suc m i, add-one i, far, mul_comm m most, r)

    pub each_all : {most : ℕ} → n ≤ i → n ≤ most → Lays (most * m) (each f n) o o'
    each_all {most} h b = within (rw (le_antisymm t.inside h) at t.laid) (omega (arith, mul-le-mul_left m b, mul_comm m most))

-- as many texts, by another number
pub each_as : (f : ℕ → List ℕ) {m n k : ℕ} {o o' : Overlay} → Lays m (each f n) o o' → n ≡ k → Lays m (each f k) o o'
each_as f {m} {n} {k} {o} {o'} a e = subst (λ (x : ℕ). Lays m (each f x) o o') e a

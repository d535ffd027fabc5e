-- Snapshots: where they are stored, and when they are due. Assumes nothing.
use Prim.Native.Nat.{ℕ, zero, suc, ◌+◌, ◌-◌, ◌*◌, ◌≤◌, ◌<◌}
use mathlib.Core.Path.{◌≡◌, refl, sym, ap, ap₂, subst, subst⁻¹, ◌∙◌}
use mathlib.Core.Bool.{true, false}
use mathlib.Core.List.{List, [], ◌∷◌, ◌++◌, flatten, append_assoc, append-nil}
use mathlib.Core.Logic.{⊎_elim}
use native.Mathlib.Nat.{add-zero, suc-mul}
use native.Mathlib.Numerals.{add-one}
use native.Mathlib.Omega.{arith}
use lib.Dec.{leb}
use lib.ListN.{length, set, take, drop, length-append, length-drop}
use lib.Seq.{sets, sets-eq, length-sets, take_all, take-nil, take-append-le, drop-append-le, drop-length}
use borrow.Rule.Slice.PartMut.{put_mid, Post-is}
use borrow.Author.Tests.{le-leb, lt-leb, leb-true, leb-false}
use Rattle.config.specs.Limits.{snapshot_size}
use Rattle.network.proofs.Sets.{two}
use Rattle.phy.specs.Slot.{Shots, take_one, take_while}
use Rattle.phy.specs.Snapshots.{snapshot_room, snapshots_with}
use Rattle.phy.specs.View.{Stores, Scheduled}

-- ---- where they are stored
-- what is copied to a part of a list is written there one element after the other
pub copied : (l ys : List ℕ) (at e : ℕ) → e ≡ at + length ys → e ≤ length l → put_mid at (e - at) l ys ≡ sets l at ys
copied l ys at e is fits =
    ap (λ (rest : List ℕ). take at l ++ (ys ++ rest)) (Post-is at e l (omega (arith, is)) ∙ ap (λ (k : ℕ). drop k l) is)
    ∙ sym (append_assoc (take at l) ys (drop (at + length ys) l))
    ∙ sym (sets-eq ys l at (omega (arith, is, fits)))

pub sets_append : (l : List ℕ) (i : ℕ) (xs ys : List ℕ) → sets l i (xs ++ ys) ≡ sets (sets l i xs) (i + length xs) ys
sets_append l i [] ys = ap (λ (k : ℕ). sets l k ys) (sym (add-zero i))
sets_append l i (x ∷ xs) ys = sets_append (set l i x) (suc i) xs ys ∙ ap (λ (k : ℕ). sets (sets (set l i x) (suc i) xs) k ys) (omega arith)

flatten_append : (xs : List (List ℕ)) (y : List ℕ) → flatten (xs ++ (y ∷ [])) ≡ flatten xs ++ y
unfolding flatten
flatten_append [] y = append-nil y
flatten_append (x ∷ xs) y = ap (λ (l : List ℕ). x ++ l) (flatten_append xs y) ∙ sym (append_assoc x (flatten xs) y)

-- the buffer keeps its length
pub length_with_lem : (b : List ℕ) (shots : List (List ℕ)) → length (snapshots_with b shots) ≡ length b
unfolding snapshots_with
length_with_lem b shots = length-sets b 0 (flatten (take (snapshot_room b) shots))

-- as a run begins
pub scheduled_none : (b : List ℕ) → Scheduled 0 0 0 b b (record { next = 0; taken = [] })
unfolding snapshots_with flatten
scheduled_none b =
    record { due = refl; number = refl; stored = sym (ap (λ (l : List (List ℕ)). sets b 0 (flatten l)) (take-nil (snapshot_room b))); whole = refl }

-- what is stored so far is left to the buffer, and those from here on are stored
pub scheduled_anew : {first next count : ℕ} {b₀ b : List ℕ} {x : Shots} → Scheduled first next count b₀ b x → Scheduled count next count b b x
unfolding snapshots_with flatten
scheduled_anew {count = count} {b = b} {x = x} r =
    let none : drop count x.taken ≡ [] = ap (λ (k : ℕ). drop k x.taken) r.number ∙ drop-length x.taken in
    record {
      due = r.due;
      number = r.number;
      stored = sym (ap (λ (l : List (List ℕ)). sets b 0 (flatten l)) (ap (take (snapshot_room b)) none ∙ take-nil (snapshot_room b)));
      whole = subst⁻¹ (λ (l : List (List ℕ)). length (flatten l) ≡ snapshot_size * length l) none refl;
    }

-- one snapshot more
module _ (b₀ : List ℕ) {b : List ℕ} (shots : List (List ℕ)) (shot : List ℕ) (five : length shot ≡ snapshot_size) (are : b ≡ snapshots_with b₀ shots)
    (whole : length (flatten shots) ≡ snapshot_size * length shots) where
  pub whole_more : length (flatten (shots ++ (shot ∷ []))) ≡ snapshot_size * length (shots ++ (shot ∷ []))
  whole_more = omega (arith, ap length (flatten_append shots shot), length-append (flatten shots) shot, length-append shots (shot ∷ []))

  pub stored_more : {b' : List ℕ} → Stores (length shots) shot b b' → b' ≡ snapshots_with b₀ (shots ++ (shot ∷ []))
  unfolding snapshots_with
  stored_more {b'} s = ⊎_elim (λ e. stays e) (λ e. over e) (two (leb (snapshot_size * length shots + snapshot_size) (length b)))
    where
      last : List (List ℕ)
      last = shot ∷ []

      long : length b ≡ length b₀
      long = ap length are ∙ length_with_lem b₀ shots

      stays : leb (snapshot_size * length shots + snapshot_size) (length b) ≡ true → b' ≡ sets b₀ 0 (flatten (take (snapshot_room b₀) (shots ++ last)))
      stays e =
          let fits : snapshot_size * length shots + snapshot_size ≤ length b = leb-true _ _ e in
          let at : 0 + length (flatten shots) ≡ snapshot_size * length shots = omega (arith, whole) in
          let before : b ≡ sets b₀ 0 (flatten shots) = are ∙ ap (λ (l : List (List ℕ)). sets b₀ 0 (flatten l)) (take_all (snapshot_room b₀) shots (omega (arith, fits, long))) in
          s.fits fits
          ∙ ap₂ (λ (l : List ℕ) (k : ℕ). sets l k shot) before (sym at)
          ∙ sym (sets_append b₀ 0 (flatten shots) shot)
          ∙ ap (sets b₀ 0) (sym (flatten_append shots shot))
          ∙ ap (λ (l : List (List ℕ)). sets b₀ 0 (flatten l)) (sym (take_all (snapshot_room b₀) (shots ++ last) (omega (arith, fits, long, length-append shots last))))

      over : leb (snapshot_size * length shots + snapshot_size) (length b) ≡ false → b' ≡ sets b₀ 0 (flatten (take (snapshot_room b₀) (shots ++ last)))
      over e =
          let full : length b < snapshot_size * length shots + snapshot_size = leb-false _ _ e in
          s.full full ∙ are ∙ ap (λ (l : List (List ℕ)). sets b₀ 0 (flatten l)) (sym (take-append-le (snapshot_room b₀) shots last (omega (arith, full, long))))

-- ---- when they are due
module _ (interval : ℕ) (shot : ℕ → List ℕ) (slot : ℕ) where
  pub none_due : (most : ℕ) (x : Shots) → slot < x.next → take_while interval shot slot most x ≡ x
  unfolding take_while
  none_due zero x h = refl
  none_due (suc most) x h = rw (take_while, lt-leb x.next slot h)

  pub one_due : (most : ℕ) (x : Shots) → x.next ≤ slot → take_while interval shot slot (suc most) x ≡ take_while interval shot slot most (take_one interval shot x)
  unfolding take_while
  one_due most x h = rw (take_while, le-leb x.next slot h)

-- one is taken, and the code stores it
pub scheduled_one : (interval : ℕ) (shot : ℕ → List ℕ) {first next count : ℕ} {b₀ b b' : List ℕ} {x : Shots} → length (shot next) ≡ snapshot_size → first ≤ count
    → Scheduled first next count b₀ b x → Stores (count - first) (shot next) b b' → Scheduled first (next + interval) (count + 1) b₀ b' (take_one interval shot x)
unfolding take_one
scheduled_one interval shot {first} {next} {count} {b₀} {b} {b'} {x} five h r s =
    let five' : length (shot x.next) ≡ snapshot_size = subst (λ (k : ℕ). length (shot k) ≡ snapshot_size) r.due five in
    let before : count - first ≡ length (drop first x.taken) = omega (arith, r.number, length-drop first x.taken) in
    let s' : Stores (length (drop first x.taken)) (shot x.next) b b' = subst (λ (k : ℕ). Stores (length (drop first x.taken)) (shot k) b b') r.due (subst (λ (k : ℕ). Stores k (shot next) b b') before s) in
    let more : drop first (x.taken ++ (shot x.next ∷ [])) ≡ drop first x.taken ++ (shot x.next ∷ []) = drop-append-le first x.taken (shot x.next ∷ []) (omega (arith, r.number)) in
    record {
      due = ap (λ (k : ℕ). k + interval) r.due;
      number = omega (arith, r.number, length-append x.taken (shot x.next ∷ []));
      stored = stored_more b₀ (drop first x.taken) (shot x.next) five' r.stored r.whole s' ∙ ap (snapshots_with b₀) (sym more);
      whole = subst⁻¹ (λ (l : List (List ℕ)). length (flatten l) ≡ snapshot_size * length l) more (whole_more b₀ (drop first x.taken) (shot x.next) five' r.stored r.whole);
    }

pub one_more : (count interval : ℕ) → count * interval + interval ≡ (count + 1) * interval
one_more count interval = sym (ap (λ (k : ℕ). k * interval) (add-one count) ∙ suc-mul count interval)

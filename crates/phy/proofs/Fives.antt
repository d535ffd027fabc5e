-- Every snapshot has five numbers, so that those of many lie one behind the other at multiples of five. Assumes nothing.
use Prim.Native.Nat.{ℕ, zero, suc, ◌+◌, ◌*◌, min}
use mathlib.Core.Path.{◌≡◌, refl, sym, ap, subst, ◌∙◌}
use mathlib.Core.List.{List, [], ◌∷◌, ◌++◌, flatten, append_assoc}
use mathlib.Core.Logic.{⊎_elim}
use native.Mathlib.Omega.{arith}
use borrow.Author.Tests.{leb-true, leb-false}
use lib.Dec.{leb}
use lib.ListN.{length, take, length-append, length-take}
use lib.Seq.{take-nil, take-append-add}
use Rattle.config.specs.Limits.{snapshot_size}
use Rattle.network.proofs.Sets.{two}
use Rattle.phy.specs.Slot.{Setup, Standing, Shots, take_one, take_while, snapshot, slot_step}
use Rattle.phy.specs.Round.{slots}
use Rattle.phy.proofs.Counts.{along_slots}
use Rattle.phy.proofs.Snapshots.{none_due, one_due}

-- ---- lists of snapshots

pub data Fives : List (List ℕ) → Type 0 where
  none : Fives []
  one : {x : List ℕ} {l : List (List ℕ)} → length x ≡ snapshot_size → Fives l → Fives (x ∷ l)

fives_append : {l k : List (List ℕ)} → Fives l → Fives k → Fives (l ++ k)
fives_append none g = g
fives_append (one e f) g = one e (fives_append f g)

pub fives_behind : (l : List (List ℕ)) {k : List (List ℕ)} → Fives (l ++ k) → Fives k
fives_behind [] f = f
fives_behind (x ∷ l) (one e f) = fives_behind l f

fives_take : {l : List (List ℕ)} → Fives l → (i : ℕ) → Fives (take i l)
fives_take none i = subst Fives (sym (take-nil i)) none
fives_take (one e f) zero = none
fives_take (one e f) (suc i) = one e (fives_take f i)

pub flatten_both : (l k : List (List ℕ)) → flatten (l ++ k) ≡ flatten l ++ flatten k
unfolding flatten
flatten_both [] k = refl
flatten_both (x ∷ l) k = ap (λ (y : List ℕ). x ++ y) (flatten_both l k) ∙ sym (append_assoc x (flatten l) (flatten k))

pub length_flat : {l : List (List ℕ)} → Fives l → length (flatten l) ≡ snapshot_size * length l
unfolding flatten
length_flat none = refl
length_flat (one {x} {l} e f) = length-append x (flatten l) ∙ omega (arith, e, length_flat f)

-- the first so many of them
pub length_fives : (i : ℕ) {l : List (List ℕ)} → Fives l → length (flatten (take i l)) ≡ snapshot_size * min i (length l)
length_fives i {l} f = length_flat (fives_take f i) ∙ ap (λ (n : ℕ). snapshot_size * n) (length-take i l)

pub take_flat : {l : List (List ℕ)} → Fives l → (i : ℕ) → take (snapshot_size * i) (flatten l) ≡ flatten (take i l)
unfolding flatten
take_flat none i = take-nil (snapshot_size * i) ∙ ap flatten (sym (take-nil i))
take_flat (one e f) zero = refl
take_flat (one {x} {l} e f) (suc i) =
    let split : snapshot_size * suc i ≡ length x + snapshot_size * i = omega (arith, e) in
    ap (λ (n : ℕ). take n (x ++ flatten l)) split ∙ take-append-add x (flatten l) (snapshot_size * i) ∙ ap (λ (y : List ℕ). x ++ y) (take_flat f i)

-- ---- the snapshots that are taken

module _ (interval : ℕ) (shot : ℕ → List ℕ) (five : (slot : ℕ) → length (shot slot) ≡ snapshot_size) (slot : ℕ) where
  fives_due : (most : ℕ) (x : Shots) → Fives x.taken → Fives (take_while interval shot slot most x).taken
  unfolding take_while
  fives_due zero x f = f
  fives_due (suc most) x f =
      ⊎_elim
      (λ e.
      subst (λ (y : Shots). Fives y.taken) (sym (one_due interval shot slot most x (leb-true _ _ e)))
      (fives_due most (take_one interval shot x) (unfold take_one in fives_append f (one (five x.next) none))))
      (λ e. subst (λ (y : Shots). Fives y.taken) (sym (none_due interval shot slot (suc most) x (leb-false _ _ e))) f)
      (two (leb x.next slot))

fives_step : (g : Setup) (s : Standing) → Fives s.shots.taken → Fives (slot_step g s).shots.taken
unfolding slot_step snapshot
fives_step g s f = fives_due g.interval _ (λ slot. refl) s.slot (suc s.slot) s.shots f

pub fives_slots : (g : Setup) (left : ℕ) (s : Standing) → Fives s.shots.taken → Fives (slots g left s).shots.taken
fives_slots g = along_slots g (λ s t. Fives s.shots.taken → Fives t.shots.taken) (λ s f. f) (λ s t more f. more (fives_step g s f))

-- The row check as facts, and what depends on the first n rows alone.
-- Assumes nothing.
use mathlib.Core.Path.{fun_ext, ◌≡◌, refl, sym, ap, ap₂, ◌∙◌}
use mathlib.Core.Bool.{Bool, true, false, not, ◌&&◌, ◌||◌, beq}
use mathlib.Core.Logic.{⊎_elim}
use mathlib.Core.List.{List, ◌∷◌}
use Prim.Native.Nat.{ℕ, zero, suc, ◌^◌, ◌≤◌, ◌<◌}
use lib.Dec.{leb, ltb}
use lib.ListN.{length, get_or}
use borrow.Author.Tests.{ltb-true, lt-ltb, leb-true, le-leb, not-true}
use Rattle.network.specs.Graph.{has, linked, all, mirrored, row_right, rows_right, backed, row_backed, Checked}
use Rattle.network.specs.Questions.{question4}
use Rattle.network.specs.Distance.{spread, reaches, first_with, distance, links, greatest, eccentricity, diameter, Joined}
use Rattle.network.proofs.Sets.{never, same, and_both, or_either, all_elim, all_intro, all_cong, any_cong, set_of_cong, beq_same, beq_refl}

-- ---- each link is at its other end too: what the code asks of each row makes all rows right
module _ (rows : List ℕ) (n : ℕ) where
  pub rows_backed : all n (row_backed rows n) ≡ rows_right rows n
  unfolding rows_right row_right row_backed mirrored backed
  rows_backed =
      same
      (λ e. all_intro n (row_right rows n) (λ i l. ap₂ ◌&&◌ (row e i l).0 (all_intro n (mirror i) (λ j m. beq_refl (linked rows i j) (linked rows j i) (same (other e i j l m) (other e j i m l))))))
      (λ e.
      all_intro n (row_backed rows n)
      (λ i l.
      let r = and_both (ltb (get_or rows i 0) (2 ^ n) && not (linked rows i i)) (mirrored rows n i) (all_elim n (row_right rows n) e i l) in
      ap₂ ◌&&◌ r.0 (all_intro n (back i) (λ j m. follows (linked rows i j) (beq_same (linked rows i j) (linked rows j i) (all_elim n (mirror i) r.1 j m))))))
    where
      mirror : ℕ → ℕ → Bool
      mirror i j = beq (linked rows i j) (linked rows j i)

      back : ℕ → ℕ → Bool
      back i j = not (linked rows i j) || linked rows j i

      row : all n (row_backed rows n) ≡ true → (i : ℕ) → i < n → ((ltb (get_or rows i 0) (2 ^ n) && not (linked rows i i)) ≡ true) × (backed rows n i ≡ true)
      row e i l = and_both (ltb (get_or rows i 0) (2 ^ n) && not (linked rows i i)) (backed rows n i) (all_elim n (row_backed rows n) e i l)

      other : all n (row_backed rows n) ≡ true → (i j : ℕ) → i < n → j < n → linked rows i j ≡ true → linked rows j i ≡ true
      other e i j l m t = ⊎_elim (λ p. never t (not-true (linked rows i j) p)) (λ p. p) (or_either (not (linked rows i j)) (linked rows j i) (all_elim n (back i) (row e i l).1 j m))

      follows : (a : Bool) {b : Bool} → a ≡ b → not a || b ≡ true
      follows true e = sym e
      follows false e = refl

-- ---- question 4 is the facts of `Checked`
pub right_checked : (rows : List ℕ) (n : ℕ) → n ≤ length rows → rows_right rows n ≡ true → Checked rows n
unfolding rows_right row_right mirrored
right_checked rows n h e =
    record {
      enough = h;
      narrow = λ i l. ltb-true (get_or rows i 0) (2 ^ n) (first i l).0;
      loopless = λ i l. not-true (linked rows i i) (first i l).1;
      symmetric = λ i j li lj. beq_same (linked rows i j) (linked rows j i) (all_elim n (λ j. beq (linked rows i j) (linked rows j i)) (row i li).1 j lj);
    }
  where
    row : (i : ℕ) → i < n → ((ltb (get_or rows i 0) (2 ^ n) && not (linked rows i i)) ≡ true) × (mirrored rows n i ≡ true)
    row i l = and_both (ltb (get_or rows i 0) (2 ^ n) && not (linked rows i i)) (mirrored rows n i) (all_elim n (row_right rows n) e i l)

    first : (i : ℕ) → i < n → (ltb (get_or rows i 0) (2 ^ n) ≡ true) × (not (linked rows i i) ≡ true)
    first i l = and_both (ltb (get_or rows i 0) (2 ^ n)) (not (linked rows i i)) (row i l).0

pub question4_checked : (rows : List ℕ) (n : ℕ) → question4 rows n ≡ true → Checked rows n
unfolding question4
question4_checked rows n e =
    let r = and_both (leb n (length rows)) (rows_right rows n) e in
    right_checked rows n (leb-true n (length rows) r.0) r.1

pub checked_question4 : (rows : List ℕ) (n : ℕ) → Checked rows n → question4 rows n ≡ true
unfolding question4 rows_right row_right mirrored
checked_question4 rows n ck =
    ap₂ ◌&&◌ (le-leb n (length rows) ck.enough)
    (all_intro n (row_right rows n)
    (λ i l.
    ap₂ ◌&&◌ (ap₂ ◌&&◌ (lt-ltb (get_or rows i 0) (2 ^ n) (ck.narrow i l)) (ap not (ck.loopless i l)))
    (all_intro n (λ j. beq (linked rows i j) (linked rows j i)) (λ j lj. beq_refl (linked rows i j) (linked rows j i) (ck.symmetric i j l lj)))))

-- ---- two lists whose first n rows agree
module _ (rows other : List ℕ) (n : ℕ) (agree : (i : ℕ) → i < n → get_or rows i 0 ≡ get_or other i 0) where
  linked_agree : (i j : ℕ) → i < n → linked rows i j ≡ linked other i j
  unfolding linked
  linked_agree i j h = ap (λ (s : ℕ). has s j) (agree i h)

  pub right_agree : rows_right rows n ≡ rows_right other n
  unfolding rows_right row_right mirrored
  right_agree =
      all_cong n
      (λ i l.
      ap₂ ◌&&◌ (ap₂ ◌&&◌ (ap (λ (s : ℕ). ltb s (2 ^ n)) (agree i l)) (ap not (linked_agree i i l)))
      (all_cong n (λ j lj. ap₂ beq (linked_agree i j l) (linked_agree j i lj))))

  spread_agree : (s : ℕ) → spread rows n s ≡ spread other n s
  unfolding spread
  spread_agree s = set_of_cong n (λ j lj. ap (λ (b : Bool). has s j || b) (any_cong n (λ i l. ap (λ (b : Bool). has s i && b) (linked_agree i j l))))

  reaches_agree : (s k : ℕ) → reaches rows n s k ≡ reaches other n s k
  unfolding reaches
  reaches_agree s zero = refl
  reaches_agree s (suc k) = ap (λ (l : List ℕ). s ∷ l) (reaches_agree (spread rows n s) k ∙ ap (λ (t : ℕ). reaches other n t k) (spread_agree s))

  pub distance_agree : (a b : ℕ) → distance rows n a b ≡ distance other n a b
  unfolding distance
  distance_agree a b = ap (first_with b) (reaches_agree (2 ^ a) n)

  pub eccentricity_agree : (a : ℕ) → eccentricity rows n a ≡ eccentricity other n a
  unfolding eccentricity
  eccentricity_agree a = ap (λ (sets : List ℕ). greatest n (λ b. links (first_with b sets))) (reaches_agree (2 ^ a) n)

  pub diameter_agree : diameter rows n ≡ diameter other n
  unfolding diameter
  diameter_agree = ap (greatest n) (fun_ext eccentricity_agree)

  pub joined_agree : Joined rows n → Joined other n
  unfolding Joined
  joined_agree j a b ha hb = let r = j a b ha hb in (r.0, sym (distance_agree a b) ∙ r.1)

pub agree_checked : (rows other : List ℕ) (n : ℕ) → ((i : ℕ) → i < n → get_or rows i 0 ≡ get_or other i 0) → n ≤ length other → Checked rows n → Checked other n
agree_checked rows other n agree h ck =
    right_checked other n h (sym (right_agree rows other n agree) ∙ (and_both (leb n (length rows)) (rows_right rows n) (unfold question4 in checked_question4 rows n ck)).1)

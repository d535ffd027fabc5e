-- The nodes at most k links from a: what the sets `reach` hold, how they grow, and that n of them are enough.
-- Assumes nothing.
use mathlib.Core.Path.{◌≡◌, refl, sym, ap, ap₂, ◌∙◌, subst}
use mathlib.Core.Bool.{Bool, true, false, not, ◌&&◌, ◌||◌}
use mathlib.Core.Logic.{◌⊎◌, inl, inr, ⊎_elim}
use mathlib.Core.List.{List, [], ◌∷◌}
use mathlib.Core.Option.{none, some, map, none-ne-some, some-injective}
use Prim.Native.Nat.{ℕ, zero, suc, ◌+◌, ◌^◌, ◌≤◌, ◌<◌, zero-le, suc-le-suc}
use native.Mathlib.Nat.{not-suc-le-zero, le_of_suc-le-suc, le_refl, le_step, le_of_lt, eq-or-lt_of_le, zero-add, suc-add, add-suc, add-zero, lt_of_lt_of_le, le_trans}
use native.Mathlib.Decide.{le_ind}
use lib.ListN.{length, get_or}
use lib.Pow.{pow-lt}
use borrow.Author.Tests.{eq-eqb, eqb-true, not-true}
use Rattle.network.specs.Graph.{has, any, linked, count}
use Rattle.network.specs.Distance.{spread, reach, reaches, first_with, distance}
use Rattle.network.proofs.Sets.{two, never, same, and_both, or_either, or_right, any_intro, any_elim, any_none, has_one, set_ext, count_le, count_lt}
use Rattle.network.proofs.Spread.{near, has_spread, spread_lt}

-- the least number below m with f, or none has it
pub least : (f : ℕ → Bool) (m : ℕ) → ((k : ℕ) × (k < m) × (f k ≡ true) × ((l : ℕ) → l < k → f l ≡ false)) ⊎ ((l : ℕ) → l < m → f l ≡ false)
least f zero = inr (λ l h. absurd (not-suc-le-zero h))
least f (suc m) =
    ⊎_elim (λ r. inl (r.0, le_step r.1, r.2, r.3))
    (λ none_yet.
    ⊎_elim (λ e. inl (m, le_refl (suc m), e, none_yet))
    (λ e. inr (λ l h. ⊎_elim (λ p. ap f p ∙ e) (λ q. none_yet l q) (eq-or-lt_of_le (le_of_suc-le-suc h))))
    (two (f m)))
    (least f m)

-- the first set of a list with b
first_at : (ss : List ℕ) (b k : ℕ) → k < length ss → has (get_or ss k 0) b ≡ true → ((l : ℕ) → l < k → has (get_or ss l 0) b ≡ false) → first_with b ss ≡ some k
unfolding first_with
first_at [] b k h e f = absurd (not-suc-le-zero h)
first_at (s ∷ ss) b zero h e f = rw e
first_at (s ∷ ss) b (suc k) h e f =
    rw (f 0 (suc-le-suc zero-le)) (ap (map suc) (first_at ss b k (le_of_suc-le-suc h) e (λ l q. f (suc l) (suc-le-suc q))))

first_none : (ss : List ℕ) (b : ℕ) → ((l : ℕ) → l < length ss → has (get_or ss l 0) b ≡ false) → first_with b ss ≡ none
unfolding first_with
first_none [] b f = refl
first_none (s ∷ ss) b f = rw (f 0 (suc-le-suc zero-le)) (ap (map suc) (first_none ss b (λ l q. f (suc l) (suc-le-suc q))))

module _ (rows : List ℕ) (n a : ℕ) where
  length_reaches : (s m : ℕ) → length (reaches rows n s m) ≡ m
  unfolding reaches
  length_reaches s zero = refl
  length_reaches s (suc m) = ap suc (length_reaches (spread rows n s) m)

  get_d_reaches : (m j i : ℕ) → i < m → get_or (reaches rows n (reach rows n a j) m) i 0 ≡ reach rows n a (i + j)
  unfolding reaches reach
  get_d_reaches zero j i h = absurd (not-suc-le-zero h)
  get_d_reaches (suc m) j zero h = ap (reach rows n a) (sym (zero-add j))
  get_d_reaches (suc m) j (suc i) h = get_d_reaches m (suc j) i (le_of_suc-le-suc h) ∙ ap (reach rows n a) (add-suc i j ∙ sym (suc-add i j))

  at_reaches : (i : ℕ) → i < n → get_or (reaches rows n (2 ^ a) n) i 0 ≡ reach rows n a i
  unfolding reach
  at_reaches i h = get_d_reaches n 0 i h ∙ ap (reach rows n a) (add-zero i)

  -- ---- one step
  has_suc : (k j : ℕ) → j < n → has (reach rows n a (suc k)) j ≡ near rows (reach rows n a k) n j
  unfolding reach
  has_suc k j h = has_spread rows (reach rows n a k) n j h

  pub grows : (k j : ℕ) → j < n → has (reach rows n a k) j ≡ true → has (reach rows n a (suc k)) j ≡ true
  unfolding near
  grows k j h e = has_suc k j h ∙ ap (λ (b : Bool). b || any n (λ i. has (reach rows n a k) i && linked rows i j)) e

  pub grows_le : {k m : ℕ} (j : ℕ) → j < n → k ≤ m → has (reach rows n a k) j ≡ true → has (reach rows n a m) j ≡ true
  grows_le {k} {m} j h l e = le_ind (λ (m : ℕ). has (reach rows n a m) j ≡ true) e (λ m q ih. grows m j h ih) m l

  pub step_on : (k i j : ℕ) → i < n → j < n → has (reach rows n a k) i ≡ true → linked rows i j ≡ true → has (reach rows n a (suc k)) j ≡ true
  unfolding near
  step_on k i j hi hj e l =
      has_suc k j hj
      ∙ or_right (has (reach rows n a k) j) (any n (λ i. has (reach rows n a k) i && linked rows i j))
      (any_intro n (λ i. has (reach rows n a k) i && linked rows i j) i hi (ap₂ ◌&&◌ e l))

  pub step_back : (k j : ℕ) → j < n → has (reach rows n a (suc k)) j ≡ true
      → (has (reach rows n a k) j ≡ true) ⊎ ((i : ℕ) × (i < n) × (has (reach rows n a k) i ≡ true) × (linked rows i j ≡ true))
  unfolding near
  step_back k j h e =
      ⊎_elim (λ p. inl p)
      (λ p.
      let r = any_elim n (λ i. has (reach rows n a k) i && linked rows i j) p in
      let s = and_both (has (reach rows n a k) r.0) (linked rows r.0 j) r.2 in
      inr (r.0, r.1, s.0, s.1))
      (or_either (has (reach rows n a k) j) (any n (λ i. has (reach rows n a k) i && linked rows i j)) (sym (has_suc k j h) ∙ e))

  -- ---- a set that a step leaves alone stays
  pub stays : (k m : ℕ) → reach rows n a (suc k) ≡ reach rows n a k → k ≤ m → reach rows n a m ≡ reach rows n a k
  unfolding reach
  stays k m e h = le_ind (λ (m : ℕ). reach rows n a m ≡ reach rows n a k) refl (λ m l ih. ap (spread rows n) ih ∙ e) m h

  module _ (ha : a < n) where
    pub reach_lt : (k : ℕ) → reach rows n a k < 2 ^ n
    unfolding reach
    reach_lt zero = pow-lt ha
    reach_lt (suc k) = spread_lt rows (reach rows n a k) n

    pub has_start : has (reach rows n a 0) a ≡ true
    unfolding reach
    has_start = has_one n a a ha ha ∙ eq-eqb a a refl

    pub start_only : (b : ℕ) → b < n → has (reach rows n a 0) b ≡ true → b ≡ a
    unfolding reach
    start_only b h e = eqb-true b a (sym (has_one n a b ha h) ∙ e)

    -- a set that a step changes gets a new node
    pub fresh : (k : ℕ) → (reach rows n a (suc k) ≡ reach rows n a k → ⊥)
        → (j : ℕ) × (j < n) × (has (reach rows n a k) j ≡ false) × (has (reach rows n a (suc k)) j ≡ true)
    fresh k ne =
        ⊎_elim
        (λ e.
        let r = any_elim n f e in
        let s = and_both (not (has (reach rows n a k) r.0)) (has (reach rows n a (suc k)) r.0) r.2 in
        (r.0, r.1, not-true (has (reach rows n a k) r.0) s.0, s.1))
        (λ e.
        absurd
        (ne
        (set_ext n (reach_lt (suc k)) (reach_lt k)
        (λ j h. same (λ p. ⊎_elim (λ q. q) (λ q. never (ap₂ ◌&&◌ (ap not q) p) (any_none n f e j h)) (two (has (reach rows n a k) j))) (grows k j h)))))
        (two (any n f))
      where
        f : ℕ → Bool
        f j = not (has (reach rows n a k) j) && has (reach rows n a (suc k)) j

    -- k steps that each change the set leave more than k nodes in it, so k is below n
    pub growing : (k : ℕ) → ((m : ℕ) → m < k → reach rows n a (suc m) ≡ reach rows n a m → ⊥) → k < n
    growing k ne = lt_of_lt_of_le (counted k ne) (count_le n (has (reach rows n a k)))
      where
        counted : (k : ℕ) → ((m : ℕ) → m < k → reach rows n a (suc m) ≡ reach rows n a m → ⊥) → k < count n (has (reach rows n a k))
        counted zero ne = le_trans (suc-le-suc zero-le) (count_lt n (λ _. false) (has (reach rows n a 0)) (λ i h e. never e refl) a ha refl has_start)
        counted (suc k) ne =
            let r = fresh k (ne k (le_refl (suc k))) in
            lt_of_lt_of_le (suc-le-suc (counted k (λ m h. ne m (le_step h)))) (count_lt n (has (reach rows n a k)) (has (reach rows n a (suc k))) (λ i h. grows k i h) r.0 r.1 r.2 r.3)

    -- ---- the distance is the least k at which the set has b
    pub below_nodes : (b k : ℕ) → has (reach rows n a k) b ≡ true → ((l : ℕ) → l < k → has (reach rows n a l) b ≡ false) → k < n
    below_nodes b k e f = growing k (λ m l p. never (ap (λ (s : ℕ). has s b) (sym (stays m k p (le_of_lt l))) ∙ e) (f m l))

    pub distance_at : (b k : ℕ) → has (reach rows n a k) b ≡ true → ((l : ℕ) → l < k → has (reach rows n a l) b ≡ false) → distance rows n a b ≡ some k
    unfolding distance
    distance_at b k e f =
        let h = below_nodes b k e f in
        first_at (reaches rows n (2 ^ a) n) b k (subst (λ (m : ℕ). k < m) (sym (length_reaches (2 ^ a) n)) h) (ap (λ (s : ℕ). has s b) (at_reaches k h) ∙ e)
        (λ l q. ap (λ (s : ℕ). has s b) (at_reaches l (lt_of_lt_of_le q (le_of_lt h))) ∙ f l q)

    pub none_at : (b : ℕ) → ((l : ℕ) → l < n → has (reach rows n a l) b ≡ false) → distance rows n a b ≡ none
    unfolding distance
    none_at b f =
        first_none (reaches rows n (2 ^ a) n) b
        (λ l h. let q = subst (λ (m : ℕ). l < m) (length_reaches (2 ^ a) n) h in ap (λ (s : ℕ). has s b) (at_reaches l q) ∙ f l q)

    pub at_distance : (b k : ℕ) → distance rows n a b ≡ some k → (has (reach rows n a k) b ≡ true) × ((l : ℕ) → l < k → has (reach rows n a l) b ≡ false)
    at_distance b k e =
        ⊎_elim
        (λ r.
        subst (λ (k : ℕ). (has (reach rows n a k) b ≡ true) × ((l : ℕ) → l < k → has (reach rows n a l) b ≡ false))
        (some-injective r.0 k (sym (distance_at b r.0 r.2 r.3) ∙ e)) (r.2, r.3))
        (λ f. absurd (none-ne-some k (sym (none_at b f) ∙ e)))
        (least (λ l. has (reach rows n a l) b) n)

    -- a set that has b bounds its distance
    pub distance_le : (b k : ℕ) → has (reach rows n a k) b ≡ true → (m : ℕ) × (m ≤ k) × (distance rows n a b ≡ some m)
    distance_le b k e =
        ⊎_elim (λ r. (r.0, le_of_suc-le-suc r.1, distance_at b r.0 r.2 r.3)) (λ f. never e (f k (le_refl (suc k)))) (least (λ l. has (reach rows n a l) b) (suc k))

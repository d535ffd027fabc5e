-- The laws of distance, eccentricity and diameter, for a graph that passes the row check.
-- Assumes nothing.
use mathlib.Core.Path.{◌≡◌, refl, sym, ap, ◌∙◌, subst}
use mathlib.Core.Bool.{true}
use mathlib.Core.Logic.{◌⊎◌, inl, inr, ⊎_elim}
use mathlib.Core.List.{List}
use mathlib.Core.Option.{Option, none, some, none-ne-some, some-injective}
use Prim.Native.Nat.{ℕ, zero, suc, ◌-◌, ◌^◌, ◌≤◌, ◌<◌, zero-le, suc-le-suc, max}
use native.Mathlib.Nat.{not-suc-le-zero, le_of_suc-le-suc, le_refl, le_step, le_trans, le_antisymm, eq-or-lt_of_le, le-max_left, le-max_right, max-eq_left, max-eq_right, le_of_lt}
use lib.Dec.{leb}
use borrow.Author.Tests.{leb-true, leb-false}
use Rattle.network.specs.Graph.{has, linked, Checked, Path, here, on}
use Rattle.network.specs.Distance.{reach, distance, IsDistance, links, greatest, eccentricity, diameter, Joined}
use Rattle.network.proofs.Sets.{two, never, has_below, has_full, set_ext}
use Rattle.network.proofs.Reach.{reach_lt, grows_le, step_on, step_back, stays, has_start, start_only, fresh, below_nodes, distance_at, at_distance, distance_le}

-- ---- the greatest of f 0 to f (n - 1)
pub greatest_bound : (n : ℕ) (f : ℕ → ℕ) (i : ℕ) → i < n → f i ≤ greatest n f
unfolding greatest
greatest_bound zero f i h = absurd (not-suc-le-zero h)
greatest_bound (suc n) f i h =
    ⊎_elim (λ p. subst (λ (k : ℕ). f k ≤ max (greatest n f) (f n)) (sym p) (le-max_right (greatest n f) (f n)))
    (λ l. le_trans (greatest_bound n f i l) (le-max_left (greatest n f) (f n)))
    (eq-or-lt_of_le (le_of_suc-le-suc h))

-- it is one of them, or 0
pub greatest_at : (n : ℕ) (f : ℕ → ℕ) → ((i : ℕ) × (i < n) × (f i ≡ greatest n f)) ⊎ (greatest n f ≡ 0)
unfolding greatest
greatest_at zero f = inr refl
greatest_at (suc n) f =
    ⊎_elim (λ e. inl (n, le_refl (suc n), sym (max-eq_right (leb-true (greatest n f) (f n) e))))
    (λ e.
    let q = max-eq_left (le_of_lt (leb-false (greatest n f) (f n) e)) in
    ⊎_elim (λ r. inl (r.0, le_step r.1, r.2 ∙ sym q)) (λ z. inr (q ∙ z)) (greatest_at n f))
    (two (leb (greatest n f) (f n)))

-- ---- paths
cons : {rows : List ℕ} {x y z k : ℕ} → linked rows x y ≡ true → Path rows y k z → Path rows x (suc k) z
cons l here = on here l
cons l (on p m) = on (cons l p) m

-- two paths, one after the other
pub joins : {rows : List ℕ} {a b c k m : ℕ} → Path rows a k b → Path rows b m c → (l : ℕ) × Path rows a l c
joins {k = k} p here = (k, p)
joins p (on q l) = let r = joins p q in (suc r.0, on r.1 l)

module _ (rows : List ℕ) (n : ℕ) (ck : Checked rows n) where
  pub link_below : (i j : ℕ) → i < n → linked rows i j ≡ true → j < n
  unfolding linked
  link_below i j h e = has_below (ck.narrow i h) j e

  pub path_below : {a k b : ℕ} → a < n → Path rows a k b → b < n
  path_below h here = h
  path_below h (on {b = b} {c = c} p l) = link_below b c (path_below h p) l

  pub turned : {a k b : ℕ} → a < n → Path rows a k b → Path rows b k a
  turned h here = here
  turned h (on {b = b} {c = c} p l) = cons (sym (ck.symmetric b c (path_below h p) (link_below b c (path_below h p) l)) ∙ l) (turned h p)

  path_reach : {a k b : ℕ} → a < n → Path rows a k b → has (reach rows n a k) b ≡ true
  path_reach {a = a} h here = has_start rows n a h
  path_reach {a = a} h (on {k = k} {b = b} {c = c} p l) =
      step_on rows n a k b c (path_below h p) (link_below b c (path_below h p) l) (path_reach h p) l

  reach_path : (a k b : ℕ) → a < n → b < n → has (reach rows n a k) b ≡ true → (m : ℕ) × (m ≤ k) × Path rows a m b
  reach_path a zero b ha hb e = (0, zero-le, subst (λ (x : ℕ). Path rows a 0 x) (sym (start_only rows n a ha b hb e)) here)
  reach_path a (suc k) b ha hb e =
      ⊎_elim (λ p. let r = reach_path a k b ha hb p in (r.0, le_step r.1, r.2))
      (λ s. let r = reach_path a k s.0 ha s.1 s.2 in (suc r.0, suc-le-suc r.1, on r.2 s.3))
      (step_back rows n a k b hb e)

  -- ---- the distance is the least number of links of a path, and none where there is no path
  pub path_distance : {a b k : ℕ} → a < n → IsDistance rows a b k → distance rows n a b ≡ some k
  path_distance {a} {b} {k} h d =
      distance_at rows n a h b k (path_reach h d.path)
      (λ l q. ⊎_elim (λ e. let r = reach_path a l b h (path_below h d.path) e in absurd (d.least r.0 (le_trans (suc-le-suc r.1) q) r.2)) (λ e. e) (two (has (reach rows n a l) b)))

  pub no_path : {a b : ℕ} → a < n → distance rows n a b ≡ none → (k : ℕ) → Path rows a k b → ⊥
  no_path {a} {b} h e k p = let r = distance_le rows n a h b k (path_reach h p) in none-ne-some r.0 (sym e ∙ r.2)

  pub distance_path : {a b k : ℕ} → a < n → b < n → distance rows n a b ≡ some k → IsDistance rows a b k
  distance_path {a} {b} {k} ha hb e =
      let s = at_distance rows n a ha b k e in
      let r = reach_path a k b ha hb s.0 in
      record {
        path = ⊎_elim (λ p. subst (λ (m : ℕ). Path rows a m b) p r.2) (λ l. never (path_reach ha r.2) (s.1 r.0 l)) (eq-or-lt_of_le r.1);
        least = λ m l p. never (path_reach ha p) (s.1 m l);
      }

  pub none_distance : {a b : ℕ} → a < n → b < n → ((k : ℕ) → Path rows a k b → ⊥) → distance rows n a b ≡ none
  none_distance {a} {b} ha hb f = go (distance rows n a b) refl
    where
      go : (d : Option ℕ) → distance rows n a b ≡ d → distance rows n a b ≡ none
      go none e = e
      go (some k) e = absurd (f k (distance_path ha hb e).path)

  -- any path bounds it
  pub distance_bound : {a b k : ℕ} → a < n → Path rows a k b → (m : ℕ) × (m ≤ k) × (distance rows n a b ≡ some m)
  distance_bound {a} {b} {k} h p = distance_le rows n a h b k (path_reach h p)

  -- ---- distance 0 exactly at itself
  pub distance_self : (a : ℕ) → a < n → distance rows n a a ≡ some 0
  distance_self a h = distance_at rows n a h a 0 (has_start rows n a h) (λ l q. absurd (not-suc-le-zero q))

  pub distance_zero : (a b : ℕ) → a < n → b < n → distance rows n a b ≡ some 0 → b ≡ a
  distance_zero a b ha hb e = start_only rows n a ha b hb (at_distance rows n a ha b 0 e).0

  -- ---- it is below n
  pub distance_lt : (a b k : ℕ) → a < n → distance rows n a b ≡ some k → k < n
  distance_lt a b k h e = let s = at_distance rows n a h b k e in below_nodes rows n a h b k s.0 s.1

  -- ---- symmetric
  pub distance_sym : (a b : ℕ) → a < n → b < n → distance rows n a b ≡ distance rows n b a
  distance_sym a b ha hb = go (distance rows n a b) refl
    where
      go : (d : Option ℕ) → distance rows n a b ≡ d → distance rows n a b ≡ distance rows n b a
      go none e = e ∙ sym (none_distance hb ha (λ k p. no_path ha e k (turned hb p)))
      go (some k) e =
          let d = distance_path ha hb e in
          e ∙ sym (path_distance hb (record { path = turned ha d.path; least = λ m l p. d.least m l (turned hb p) }))

  -- ---- along a link it changes by at most 1
  pub distance_link : (a b c k : ℕ) → a < n → b < n → linked rows b c ≡ true → distance rows n a b ≡ some k
      → (m : ℕ) × (m ≤ suc k) × (k ≤ suc m) × (distance rows n a c ≡ some m)
  distance_link a b c k ha hb l e =
      let hc = link_below b c hb l in
      let d = distance_path ha hb e in
      let r = distance_bound ha (on d.path l) in
      let s = distance_bound ha (on (distance_path ha hc r.2).path (sym (ck.symmetric b c hb hc) ∙ l)) in
      (r.0, r.1, subst (λ (x : ℕ). x ≤ suc r.0) (some-injective s.0 k (sym s.2 ∙ e)) s.1, r.2)

  -- ---- a node at distance k + 1 has a neighbour at distance k
  pub distance_before : (a b k : ℕ) → a < n → b < n → distance rows n a b ≡ some (suc k)
      → (i : ℕ) × (i < n) × (linked rows i b ≡ true) × (distance rows n a i ≡ some k)
  distance_before a b k ha hb e =
      let s = at_distance rows n a ha b (suc k) e in
      ⊎_elim (λ p. never p (s.1 k (le_refl (suc k))))
      (λ r. (
        r.0,
        r.1,
        r.3,
        distance_at rows n a ha r.0 k r.2
            (λ l q. ⊎_elim (λ p. never (step_on rows n a l r.0 b r.1 hb p r.3) (s.1 (suc l) (suc-le-suc q))) (λ p. p) (two (has (reach rows n a l) r.0))),
      ))
      (step_back rows n a k b hb s.0)

  -- every number up to a node's distance is some node's distance
  pub distance_each : (a b k m : ℕ) → a < n → b < n → distance rows n a b ≡ some k → m ≤ k → (c : ℕ) × (c < n) × (distance rows n a c ≡ some m)
  distance_each a b zero m ha hb e l = (b, hb, e ∙ ap some (le_antisymm zero-le l))
  distance_each a b (suc k) m ha hb e l =
      ⊎_elim (λ p. (b, hb, e ∙ ap some (sym p)))
      (λ q. let r = distance_before a b k ha hb e in distance_each a r.0 k m ha r.1 r.3 (le_of_suc-le-suc q))
      (eq-or-lt_of_le l)

  -- ---- eccentricity: the greatest finite distance from a
  pub eccentricity_bound : (a b k : ℕ) → b < n → distance rows n a b ≡ some k → k ≤ eccentricity rows n a
  unfolding eccentricity distance links
  eccentricity_bound a b k hb e = subst (λ (d : Option ℕ). links d ≤ eccentricity rows n a) e (greatest_bound n (λ b. links (distance rows n a b)) b hb)

  pub eccentricity_at : (a : ℕ) → a < n → (b : ℕ) × (b < n) × (distance rows n a b ≡ some (eccentricity rows n a))
  unfolding eccentricity distance
  eccentricity_at a h = ⊎_elim (λ r. go r.0 r.1 r.2 (distance rows n a r.0) refl) (λ z. own z) (greatest_at n (λ b. links (distance rows n a b)))
    where
      own : eccentricity rows n a ≡ 0 → (b : ℕ) × (b < n) × (distance rows n a b ≡ some (eccentricity rows n a))
      own z = (a, h, distance_self a h ∙ ap some (sym z))

      go : (b : ℕ) → b < n → links (distance rows n a b) ≡ eccentricity rows n a → (d : Option ℕ) → distance rows n a b ≡ d
          → (b : ℕ) × (b < n) × (distance rows n a b ≡ some (eccentricity rows n a))
      go b hb q none e = own (sym q ∙ ap links e)
      go b hb q (some k) e = (b, hb, e ∙ ap some (sym (ap links e) ∙ q))

  pub eccentricity_lt : (a : ℕ) → a < n → eccentricity rows n a < n
  eccentricity_lt a h = let r = eccentricity_at a h in distance_lt a r.0 (eccentricity rows n a) h r.2

  -- every number from 0 to the eccentricity is some node's distance
  pub eccentricity_each : (a m : ℕ) → a < n → m ≤ eccentricity rows n a → (b : ℕ) × (b < n) × (distance rows n a b ≡ some m)
  eccentricity_each a m h l = let r = eccentricity_at a h in distance_each a r.0 (eccentricity rows n a) m h r.1 r.2 l

  pub eccentricity_diameter : (a : ℕ) → a < n → eccentricity rows n a ≤ diameter rows n
  unfolding diameter
  eccentricity_diameter a h = greatest_bound n (eccentricity rows n) a h

  pub diameter_at : 0 < n → (a b : ℕ) × (a < n) × (b < n) × (distance rows n a b ≡ some (diameter rows n))
  unfolding diameter
  diameter_at h =
      ⊎_elim (λ r. let s = eccentricity_at r.0 r.1 in (r.0, s.0, r.1, s.1, s.2 ∙ ap some r.2))
      (λ z. (0, 0, h, h, distance_self 0 h ∙ ap some (sym z)))
      (greatest_at n (eccentricity rows n))

  pub diameter_lt : 0 < n → diameter rows n < n
  diameter_lt h = let r = diameter_at h in distance_lt r.0 r.1 (diameter rows n) r.2 r.4

  -- where all are joined, a distance is its number of links
  pub joined_distance : Joined rows n → (a b : ℕ) → a < n → b < n → distance rows n a b ≡ some (links (distance rows n a b))
  unfolding Joined links
  joined_distance j a b ha hb = let r = j a b ha hb in r.1 ∙ ap some (sym (ap links r.1))

  -- ---- as long as the set of nodes reached grows, the eccentricity is not less than the number of steps; and it is that number
  -- where the set no longer grows
  pub eccentricity_steps : (a k : ℕ) → a < n → ((m : ℕ) → m < k → reach rows n a (suc m) ≡ reach rows n a m → ⊥) → k ≤ eccentricity rows n a
  eccentricity_steps a zero h ne = zero-le
  eccentricity_steps a (suc k) h ne =
      let r = fresh rows n a h k (ne k (le_refl (suc k))) in
      eccentricity_bound a r.0 (suc k) r.1
      (distance_at rows n a h r.0 (suc k) r.3
      (λ l q. ⊎_elim (λ p. never (grows_le rows n a r.0 r.1 (le_of_suc-le-suc q) p) r.2) (λ p. p) (two (has (reach rows n a l) r.0))))

  pub eccentricity_still : (a k : ℕ) → a < n → reach rows n a (suc k) ≡ reach rows n a k → eccentricity rows n a ≤ k
  eccentricity_still a k h e =
      let r = eccentricity_at a h in
      let s = at_distance rows n a h r.0 (eccentricity rows n a) r.2 in
      ⊎_elim (λ p. leb-true (eccentricity rows n a) k p)
      (λ p.
      let q = leb-false (eccentricity rows n a) k p in
      never (ap (λ (x : ℕ). has x r.0) (sym (stays rows n a k (eccentricity rows n a) e (le_of_lt q))) ∙ s.0) (s.1 k q))
      (two (leb (eccentricity rows n a) k))

  -- and where it has every node
  pub eccentricity_full : (a k : ℕ) → a < n → reach rows n a k ≡ 2 ^ n - 1 → eccentricity rows n a ≤ k
  eccentricity_full a k h e =
      eccentricity_still a k h
      (set_ext n (reach_lt rows n a h (suc k)) (reach_lt rows n a h k)
      (λ j l.
      let t = ap (λ (s : ℕ). has s j) e ∙ has_full n j l in
      grows_le rows n a j l (le_step (le_refl k)) t ∙ sym t))

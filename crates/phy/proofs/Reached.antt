-- Who hears in a slot in which no attempt is lost. Assumes nothing.
use Prim.Native.Nat.{ℕ, zero, suc, ◌^◌, ◌≤◌, ◌<◌}
use mathlib.Core.Path.{◌≡◌, refl, sym, ap, ap₂, subst, ◌∙◌}
use mathlib.Core.Bool.{Bool, true, false, cond, ◌&&◌, ◌||◌, or-false, or_assoc}
use mathlib.Core.List.{List, [], ◌∷◌, ◌++◌}
use mathlib.Core.Logic.{⊎_elim}
use native.Mathlib.Nat.{le_refl, eq-or-lt_of_le, le_of_suc-le-suc}
use native.Mathlib.Omega.{arith}
use lib.Dec.{eqb}
use lib.Pow.{pow_pos}
use borrow.Author.Tests.{eqb-true, eq-eqb}
use Rattle.network.specs.Graph.{has, linked}
use Rattle.network.proofs.Lowest.{has_zero}
use Rattle.network.proofs.Sets.{never, and_both, or_either, or_right}
use Rattle.phy.specs.declared.node.Node.{Node}
use Rattle.phy.specs.Node.{is_listening, is_flooding}
use Rattle.phy.specs.Slot.{Setup, Tries, at, among, receivers, attempt_by, attempt, attempt_all, tries_in}
use Rattle.phy.proofs.Masks.{has_insert, insert_lt}
use Rattle.phy.proofs.Tries.{tried_in, attempts_all}

-- ---- a number is in a list
unfoldable pub is_in : ℕ → List ℕ → Bool
is_in j [] = false
is_in j (x ∷ xs) = eqb j x || is_in j xs

in_append : (j : ℕ) (xs ys : List ℕ) → is_in j (xs ++ ys) ≡ is_in j xs || is_in j ys
unfolding is_in
in_append j [] ys = refl
in_append j (x ∷ xs) ys = ap (λ (b : Bool). eqb j x || b) (in_append j xs ys) ∙ sym (or_assoc (eqb j x) (is_in j xs) (is_in j ys))

-- the numbers below n that are so
in_among : (n : ℕ) (f : ℕ → Bool) (j : ℕ) → is_in j (among n f) ≡ true → (j < n) × (f j ≡ true)
unfolding among is_in
in_among zero f j e = never e refl
in_among (suc n) f j e =
    ⊎_elim (λ p. let r = in_among n f j p in (omega (arith, r.0), r.1)) (λ p. own (f n) refl p)
    (or_either (is_in j (among n f)) (is_in j (cond (f n) (n ∷ []) [])) (sym (in_append j (among n f) (cond (f n) (n ∷ []) [])) ∙ e))
  where
    own : (b : Bool) → f n ≡ b → is_in j (cond b (n ∷ []) []) ≡ true → (j < suc n) × (f j ≡ true)
    own true q p = ⊎_elim (λ u. let w = eqb-true j n u in (omega (arith, w), ap f w ∙ q)) (λ u. never u refl) (or_either (eqb j n) false p)
    own false q p = never p refl

among_in : (n : ℕ) (f : ℕ → Bool) (j : ℕ) → j < n → f j ≡ true → is_in j (among n f) ≡ true
unfolding among is_in
among_in zero f j h e = absurd (omega arith)
among_in (suc n) f j h e = in_append j (among n f) (cond (f n) (n ∷ []) []) ∙
    ⊎_elim
    (λ p.
    or_right (is_in j (among n f)) (is_in j (cond (f n) (n ∷ []) []))
    (ap (λ (b : Bool). is_in j (cond b (n ∷ []) [])) (ap f (sym p) ∙ e) ∙ ap (λ (b : Bool). b || false) (eq-eqb j n p)))
    (λ l. ap (λ (b : Bool). b || is_in j (cond (f n) (n ∷ []) [])) (among_in n f j l e))
    (eq-or-lt_of_le (le_of_suc-le-suc h))

-- the receivers are the listening nodes to which a flooding node is linked
module _ (rows : List ℕ) (floods listens : ℕ → Bool) (n : ℕ) where
  in_receivers : (m j : ℕ) → is_in j (receivers rows floods listens n m) ≡ true
      → (i : ℕ) × (i < m) × (floods i ≡ true) × (linked rows i j ≡ true) × (listens j ≡ true) × (j < n)
  unfolding receivers is_in
  in_receivers zero j e = never e refl
  in_receivers (suc m) j e =
      ⊎_elim (λ p. let r = in_receivers m j p in (r.0, omega (arith, r.1), r.2, r.3, r.4, r.5)) (λ p. own (floods m) refl p)
      (or_either _ _ (sym (in_append j (receivers rows floods listens n m) (cond (floods m) theirs [])) ∙ e))
    where
      theirs : List ℕ
      theirs = among n (λ (j : ℕ). linked rows m j && listens j)

      own : (b : Bool) → floods m ≡ b → is_in j (cond b theirs []) ≡ true → (i : ℕ) × (i < suc m) × (floods i ≡ true) × (linked rows i j ≡ true) × (listens j ≡ true) × (j < n)
      own true q p =
          let r = in_among n (λ (j : ℕ). linked rows m j && listens j) j p in
          let s = and_both (linked rows m j) (listens j) r.1 in
          (m, omega arith, q, s.0, s.1, r.0)
      own false q p = never p refl

  receivers_in : (m i j : ℕ) → i < m → floods i ≡ true → linked rows i j ≡ true → listens j ≡ true → j < n → is_in j (receivers rows floods listens n m) ≡ true
  unfolding receivers
  receivers_in zero i j hi f l w hj = absurd (omega arith)
  receivers_in (suc m) i j hi f l w hj =
      in_append j (receivers rows floods listens n m) (cond (floods m) theirs []) ∙
      ⊎_elim
      (λ p.
      or_right (is_in j (receivers rows floods listens n m)) (is_in j (cond (floods m) theirs []))
      (ap (λ (b : Bool). is_in j (cond b theirs [])) (ap floods (sym p) ∙ f)
      ∙ among_in n (λ (j : ℕ). linked rows m j && listens j) j hj (ap₂ ◌&&◌ (ap (λ (k : ℕ). linked rows k j) (sym p) ∙ l) w)))
      (λ b. ap (λ (x : Bool). x || is_in j (cond (floods m) theirs [])) (receivers_in m i j b f l w hj))
      (eq-or-lt_of_le (le_of_suc-le-suc hi))
    where
      theirs : List ℕ
      theirs = among n (λ (j : ℕ). linked rows m j && listens j)

-- ---- nothing is lost: reached is who was reached before, and the receivers
reached_all : (h : ℕ → Bool) (w : ℕ) (t : Tries) (js : List ℕ) → t.reached < 2 ^ w → ((k : ℕ) → is_in k js ≡ true → k < w)
    → ((k : ℕ) → t.attempts ≤ k → k < (attempt_all h t js).attempts → h k ≡ true)
    → (j : ℕ) → j < w → has (attempt_all h t js).reached j ≡ has t.reached j || is_in j js
unfolding attempt_all is_in attempt
reached_all h w t [] small below all j hj = sym (or-false (has t.reached j))
reached_all h w t (x ∷ js) small below all j hj =
    let heard : h t.attempts ≡ true = all t.attempts (le_refl t.attempts) (omega (arith, attempts_all h t (x ∷ js))) in
    let within : x < w = below x (ap (λ (b : Bool). b || is_in x js) (eq-eqb x x refl)) in
    ap (λ (b : Bool). has (attempt_all h (attempt_by b t x) js).reached j) heard
    ∙ reached_all h w (attempt_by true t x) js (insert_lt w small within) (λ k q. below k (or_right (eqb k x) (is_in k js) q))
    (λ k low high. all k (omega (arith, low)) (subst (λ (b : Bool). k < (attempt_all h (attempt_by b t x) js).attempts) (sym heard) high)) j hj
    ∙ ap (λ (b : Bool). b || is_in j js) (has_insert w small within j hj)
    ∙ regroup (eqb j x) (has t.reached j) (is_in j js)
  where
    regroup : (a b c : Bool) → (a || b) || c ≡ b || (a || c)
    regroup true true c = refl
    regroup true false c = refl
    regroup false true c = refl
    regroup false false c = refl

-- node j hears exactly when it listens and a flooding node is linked to it
module _ (g : Setup) (nodes : List Node) (attempts successes : ℕ)
    (all : (k : ℕ) → attempts ≤ k → k < (tries_in g nodes attempts successes).attempts → g.heard k ≡ true) where
  reached_is : (j : ℕ) → j < g.nodes → has (tries_in g nodes attempts successes).reached j ≡ is_in j (tried_in g nodes)
  unfolding tries_in
  reached_is j h =
      reached_all g.heard g.nodes (record { attempts = attempts; successes = successes; reached = 0 }) (tried_in g nodes) (pow_pos g.nodes)
      (λ k e. (in_receivers g.rows _ _ g.nodes g.nodes k e).5) all j h
      ∙ ap (λ (b : Bool). b || is_in j (tried_in g nodes)) (has_zero j)

  -- it does
  pub hears : (i j : ℕ) → i < g.nodes → j < g.nodes → is_flooding (at nodes i) ≡ true → linked g.rows i j ≡ true → is_listening (at nodes j) ≡ true
      → has (tries_in g nodes attempts successes).reached j ≡ true
  hears i j hi hj f l w = reached_is j hj ∙ receivers_in g.rows (λ (j : ℕ). is_flooding (at nodes j)) (λ (j : ℕ). is_listening (at nodes j)) g.nodes g.nodes i j hi f l w hj

  -- and if it did, such a node is there
  pub heard_from : (j : ℕ) → j < g.nodes → has (tries_in g nodes attempts successes).reached j ≡ true
      → (i : ℕ) × (i < g.nodes) × (is_flooding (at nodes i) ≡ true) × (linked g.rows i j ≡ true)
  heard_from j h e =
      let r = in_receivers g.rows (λ (j : ℕ). is_flooding (at nodes j)) (λ (j : ℕ). is_listening (at nodes j)) g.nodes g.nodes j (sym (reached_is j h) ∙ e) in
      (r.0, r.1, r.2, r.3)

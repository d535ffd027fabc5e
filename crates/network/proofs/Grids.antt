-- A grid by rows and columns is the grid that the source builds: each node with the one to its right and the one below.
-- Assumes nothing.
use mathlib.Core.Path.{◌≡◌, sym, ap, ap₂, ◌∙◌, subst}
use mathlib.Core.Bool.{true, ◌&&◌, ◌||◌}
use mathlib.Core.Logic.{⊎_elim}
use Prim.Native.Nat.{ℕ, ◌+◌, ◌*◌, ◌/◌, ◌%◌, ◌<◌}
use native.Mathlib.Nat.{div-add-mod', mod-lt, add-div_right, add-mod_right, add-mul, one-mul}
use native.Mathlib.Omega.{arith}
use lib.Dec.{eqb, ltb}
use lib.Arith.{digits_div, digits_mod}
use borrow.Author.Tests.{eq-eqb, eqb-true, lt-ltb, ltb-true}
use Rattle.std.proofs.lemmas.Bool.{or_left}
use Rattle.network.specs.Topology.{beside, linked_in}
use Rattle.network.specs.Builders.{right_or_below}
use Rattle.network.specs.declared.topology.Topology.TheVariants.{Grid}
use Rattle.network.proofs.Topologies.{links_sym}
use Rattle.network.proofs.Sets.{same, and_both, or_either, or_right}

module _ (c : ℕ) (h : 0 < c) where
  -- the next in a row, and the one below, by their numbers
  right : (i j : ℕ) → i + 1 ≡ j → i % c + 1 < c → (j / c ≡ i / c) × (j % c ≡ i % c + 1)
  right i j e l =
      let q : i / c * c + (i % c + 1) ≡ j = omega (arith, div-add-mod' i c) in
      (ap (λ (x : ℕ). x / c) (sym q) ∙ digits_div (i / c) l, ap (λ (x : ℕ). x % c) (sym q) ∙ digits_mod (i / c) l)

  left : (i j : ℕ) → i / c ≡ j / c → i % c + 1 ≡ j % c → (i + 1 ≡ j) × (i % c + 1 < c)
  left i j e l =
      let q = ap (λ (x : ℕ). x * c) e in
      (omega (arith, div-add-mod' i c, div-add-mod' j c), subst (λ (x : ℕ). x < c) (sym l) (mod-lt j h))

  down : (i j : ℕ) → i % c ≡ j % c → i / c + 1 ≡ j / c → i + c ≡ j
  down i j e l =
      let q = ap (λ (x : ℕ). x * c) (sym l) ∙ add-mul (i / c) 1 c in
      omega (arith, div-add-mod' i c, div-add-mod' j c, one-mul c)

  -- i and j are next to each other in a row or in a column, i first
  after_by_rows : (i j : ℕ) → right_or_below c i j ≡ true → linked_in (Grid c) 0 i j ≡ true
  after_by_rows i j e =
      ⊎_elim
      (λ p.
      let r = and_both (eqb (i + 1) j) (ltb (i % c + 1) c) p in
      let s = right i j (eqb-true (i + 1) j r.0) (ltb-true (i % c + 1) c r.1) in
      or_left (eqb (i / c) (j / c) && beside (i % c) (j % c)) (eqb (i % c) (j % c) && beside (i / c) (j / c))
      (ap₂ ◌&&◌ (eq-eqb (i / c) (j / c) (sym s.0)) (or_left (eqb (i % c + 1) (j % c)) (eqb (j % c + 1) (i % c)) (eq-eqb (i % c + 1) (j % c) (sym s.1)))))
      (λ p.
      let q = eqb-true (i + c) j p in
      or_right (eqb (i / c) (j / c) && beside (i % c) (j % c)) (eqb (i % c) (j % c) && beside (i / c) (j / c))
      (ap₂ ◌&&◌ (eq-eqb (i % c) (j % c) (sym (add-mod_right i c) ∙ ap (λ (x : ℕ). x % c) q))
      (or_left (eqb (i / c + 1) (j / c)) (eqb (j / c + 1) (i / c)) (eq-eqb (i / c + 1) (j / c) (sym (add-div_right i h) ∙ ap (λ (x : ℕ). x / c) q)))))
      (or_either (eqb (i + 1) j && ltb (i % c + 1) c) (eqb (i + c) j) e)

  in_row : (i j : ℕ) → i / c ≡ j / c → i % c + 1 ≡ j % c → right_or_below c i j ≡ true
  in_row i j e l =
      let r = left i j e l in
      or_left (eqb (i + 1) j && ltb (i % c + 1) c) (eqb (i + c) j) (ap₂ ◌&&◌ (eq-eqb (i + 1) j r.0) (lt-ltb (i % c + 1) c r.1))

  in_column : (i j : ℕ) → i % c ≡ j % c → i / c + 1 ≡ j / c → right_or_below c i j ≡ true
  in_column i j e l = or_right (eqb (i + 1) j && ltb (i % c + 1) c) (eqb (i + c) j) (eq-eqb (i + c) j (down i j e l))

  either_way : (i j : ℕ) → linked_in (Grid c) 0 i j ≡ true → right_or_below c i j || right_or_below c j i ≡ true
  either_way i j e =
      ⊎_elim
      (λ p.
      let r = and_both (eqb (i / c) (j / c)) (beside (i % c) (j % c)) p in
      let q = eqb-true (i / c) (j / c) r.0 in
      ⊎_elim (λ s. first (in_row i j q (eqb-true (i % c + 1) (j % c) s))) (λ s. second (in_row j i (sym q) (eqb-true (j % c + 1) (i % c) s)))
      (or_either (eqb (i % c + 1) (j % c)) (eqb (j % c + 1) (i % c)) r.1))
      (λ p.
      let r = and_both (eqb (i % c) (j % c)) (beside (i / c) (j / c)) p in
      let q = eqb-true (i % c) (j % c) r.0 in
      ⊎_elim (λ s. first (in_column i j q (eqb-true (i / c + 1) (j / c) s))) (λ s. second (in_column j i (sym q) (eqb-true (j / c + 1) (i / c) s)))
      (or_either (eqb (i / c + 1) (j / c)) (eqb (j / c + 1) (i / c)) r.1))
      (or_either (eqb (i / c) (j / c) && beside (i % c) (j % c)) (eqb (i % c) (j % c) && beside (i / c) (j / c)) e)
    where
      first : right_or_below c i j ≡ true → right_or_below c i j || right_or_below c j i ≡ true
      first e = or_left (right_or_below c i j) (right_or_below c j i) e

      second : right_or_below c j i ≡ true → right_or_below c i j || right_or_below c j i ≡ true
      second e = or_right (right_or_below c i j) (right_or_below c j i) e

  pub grid_links : (n i j : ℕ) → right_or_below c i j || right_or_below c j i ≡ linked_in (Grid c) n i j
  grid_links n i j =
      same
      (λ e. ⊎_elim (λ p. after_by_rows i j p) (λ p. links_sym (Grid c) n i j ∙ after_by_rows j i p) (or_either (right_or_below c i j) (right_or_below c j i) e))
      (either_way i j)

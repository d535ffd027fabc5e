-- The laws of the topologies: their rows pass the row check, and all but a tree without branches are joined.
-- Assumes nothing.
use mathlib.Core.Path.{◌≡◌, refl, sym, ap, ap₂, ◌∙◌, subst}
use mathlib.Core.Bool.{Bool, true, false, not, ◌&&◌, ◌||◌, and-false, or_comm}
use mathlib.Core.Logic.{◌⊎◌, inl, inr, ⊎_elim}
use mathlib.Core.List.{List}
use Prim.Native.Nat.{ℕ, zero, suc, ◌+◌, ◌-◌, ◌*◌, ◌/◌, ◌%◌, ◌^◌, ◌≤◌, ◌<◌, zero-le, suc-le-suc}
use native.Mathlib.Nat.{not-suc-le-zero, le_of_suc-le-suc, le_refl, le_of_eq, le_of_lt, lt_trans, lt_of_lt_of_le, ne_of_lt, zero-lt-suc, mod-eq_of_lt, div-eq_of_lt, div-le_self, div-mul-le_self, lt-div-mul-add, add-div_right, add-mod_right, sub-add_cancel, mul-zero, le-mul_of_pos_right, eq-zero-or-pos}
use native.Mathlib.Numerals.{add-one}
use native.Mathlib.Omega.{arith}
use lib.Dec.{eqb, ltb}
use lib.ListN.{get_or}
use borrow.Author.Tests.{eq-eqb, ne_eqb, eqb-true, ltb-true, ltb-false}
use Rattle.network.specs.Graph.{has, linked, set_of, Checked, Path, here, on}
use Rattle.network.specs.Distance.{Joined}
use Rattle.network.specs.Topology.{beside, first_and_last, child, linked_in, topology_row, topology_rows}
use Rattle.network.specs.declared.topology.Topology.{Topology}
use Rattle.network.specs.declared.topology.Topology.TheVariants.{FullMesh, Line, Star, Grid, Ring, Tree}
use Rattle.network.proofs.Sets.{two, same, and_both, or_right, has_set_of, set_of_lt}
use Rattle.network.proofs.Within.{within_both, within_true}
use Rattle.random.proofs.Tables.{length_tabulate, get_d_tabulate}
use Rattle.network.specs.Questions.{question4}
use Rattle.network.proofs.Checks.{checked_question4}
use Rattle.network.proofs.Distances.{joins, turned, distance_bound}

-- ---- links are symmetric
eqb_comm : (x y : ℕ) → eqb x y ≡ eqb y x
eqb_comm x y = same (λ e. eq-eqb y x (sym (eqb-true x y e))) (λ e. eq-eqb x y (sym (eqb-true y x e)))

beside_comm : (x y : ℕ) → beside x y ≡ beside y x
beside_comm x y = or_comm (eqb (x + 1) y) (eqb (y + 1) x)

pub links_sym : (t : Topology) (n i j : ℕ) → linked_in t n i j ≡ linked_in t n j i
links_sym FullMesh n i j = ap not (eqb_comm i j)
links_sym Line n i j = beside_comm i j
links_sym Star n i j = ap₂ ◌&&◌ (or_comm (eqb i 0) (eqb j 0)) (ap not (eqb_comm i j))
links_sym (Grid c) n i j =
    ap₂ ◌||◌ (ap₂ ◌&&◌ (eqb_comm (i / c) (j / c)) (beside_comm (i % c) (j % c))) (ap₂ ◌&&◌ (eqb_comm (i % c) (j % c)) (beside_comm (i / c) (j / c)))
links_sym Ring n i j = ap₂ ◌||◌ (beside_comm i j) (ap (λ (b : Bool). ltb 2 n && b) (or_comm (first_and_last n i j) (first_and_last n j i)))
links_sym (Tree b) n i j = or_comm (child b i j) (child b j i)

-- ---- and link no node to itself
beside_self : (x : ℕ) → beside x x ≡ false
beside_self x = let e = ne_eqb (x + 1) x (omega arith) in ap₂ ◌||◌ e e

child_self : (b i : ℕ) → child b i i ≡ false
child_self b i =
    ⊎_elim (λ e. let r = within_both (i * b + 1) (i * b + b) i e in absurd (low (eq-zero-or-pos b) r.0 r.1)) (λ e. e) (two (child b i i))
  where
    low : (b ≡ 0) ⊎ (0 < b) → i * b + 1 ≤ i → i ≤ i * b + b → ⊥
    low (inl z) p q = let e = ap (λ (x : ℕ). i * x) z ∙ mul-zero i in omega arith
    low (inr h) p q = omega (arith, le-mul_of_pos_right i h)

pub links_self : (t : Topology) (n i : ℕ) → linked_in t n i i ≡ false
links_self FullMesh n i = ap not (eq-eqb i i refl)
links_self Line n i = beside_self i
links_self Star n i = ap (λ (b : Bool). (eqb i 0 || eqb i 0) && not b) (eq-eqb i i refl) ∙ and-false (eqb i 0 || eqb i 0)
links_self (Grid c) n i =
    ap₂ (λ (x y : Bool). eqb (i / c) (i / c) && x || eqb (i % c) (i % c) && y) (beside_self (i % c)) (beside_self (i / c))
    ∙ ap₂ ◌||◌ (and-false (eqb (i / c) (i / c))) (and-false (eqb (i % c) (i % c)))
links_self Ring n i = ap₂ ◌||◌ (beside_self i) (closed (two (ltb 2 n)))
  where
    closed : (ltb 2 n ≡ true) ⊎ (ltb 2 n ≡ false) → ltb 2 n && (first_and_last n i i || first_and_last n i i) ≡ false
    closed (inr e) = ap (λ (b : Bool). b && (first_and_last n i i || first_and_last n i i)) e
    closed (inl e) =
        let h = ltb-true 2 n e in
        let q : first_and_last n i i ≡ false =
        ⊎_elim (λ p. let r = and_both (eqb i 0) (eqb (i + 1) n) p in let z = eqb-true i 0 r.0 in let w = eqb-true (i + 1) n r.1 in absurd (omega arith)) (λ p. p) (two (first_and_last n i i)) in
        ap (λ (b : Bool). ltb 2 n && (b || b)) q ∙ and-false (ltb 2 n)
links_self (Tree b) n i = ap₂ ◌||◌ (child_self b i) (child_self b i)

-- ---- the rows hold the links, and pass the row check
get_d_rows : (t : Topology) (n i : ℕ) → i < n → get_or (topology_rows t n) i 0 ≡ set_of n (linked_in t n i)
unfolding topology_rows topology_row
get_d_rows t n i h = get_d_tabulate n (topology_row t n) i 0 h

pub linked_in_lem : (t : Topology) (n i j : ℕ) → i < n → j < n → linked (topology_rows t n) i j ≡ linked_in t n i j
unfolding linked
linked_in_lem t n i j hi hj = ap (λ (s : ℕ). has s j) (get_d_rows t n i hi) ∙ has_set_of n (linked_in t n i) j hj

pub rows_checked : (t : Topology) (n : ℕ) → Checked (topology_rows t n) n
unfolding topology_rows
rows_checked t n =
    record {
      enough = le_of_eq (sym (length_tabulate n (topology_row t n)));
      narrow = λ i h. subst (λ (s : ℕ). s < 2 ^ n) (sym (get_d_rows t n i h)) (set_of_lt n (linked_in t n i));
      loopless = λ i h. linked_in_lem t n i i h h ∙ links_self t n i;
      symmetric = λ i j hi hj. linked_in_lem t n i j hi hj ∙ links_sym t n i j ∙ sym (linked_in_lem t n j i hj hi);
    }

pub rows_pass : (t : Topology) (n : ℕ) → question4 (topology_rows t n) n ≡ true
rows_pass t n = checked_question4 (topology_rows t n) n (rows_checked t n)

-- ---- a graph in which every node but 0 is linked to a lower one is joined
pub lower_joined : (rows : List ℕ) (n : ℕ) → Checked rows n → ((i : ℕ) → 0 < i → i < n → (j : ℕ) × (j < i) × (linked rows j i ≡ true)) → Joined rows n
unfolding Joined
lower_joined rows n ck lower a b ha hb =
    let p = from_zero (suc a) a (le_refl (suc a)) ha in
    let q = from_zero (suc b) b (le_refl (suc b)) hb in
    let r = joins {k = p.0} {m = q.0} (turned rows n ck {k = p.0} (lt_of_lt_of_le (suc-le-suc zero-le) ha) p.1) q.1 in
    let d = distance_bound rows n ck ha r.1 in
    (d.0, d.2)
  where
    from_zero : (m i : ℕ) → i < m → i < n → (k : ℕ) × Path rows 0 k i
    from_zero zero i l h = absurd (not-suc-le-zero l)
    from_zero (suc m) zero l h = (0, here)
    from_zero (suc m) (suc i) l h =
        let r = lower (suc i) (suc-le-suc zero-le) h in
        let p = from_zero m r.0 (lt_of_lt_of_le r.1 (le_of_suc-le-suc l)) (lt_trans r.1 h) in
        (suc p.0, on p.1 r.2)

-- a grid has a column, and a tree a branch
abbrev pub Branched : Topology → Type 0
Branched FullMesh = Unit {0}
Branched Line = Unit {0}
Branched Star = Unit {0}
Branched (Grid c) = 0 < c
Branched Ring = Unit {0}
Branched (Tree b) = 0 < b

next_beside : (m : ℕ) → beside m (suc m) ≡ true
next_beside m = ap (λ (b : Bool). b || eqb (suc m + 1) m) (eq-eqb (m + 1) (suc m) (add-one m))

grid_above : (c n j : ℕ) → 0 < c → linked_in (Grid c) n j (j + c) ≡ true
grid_above c n j h =
    or_right (eqb (j / c) ((j + c) / c) && beside (j % c) ((j + c) % c)) (eqb (j % c) ((j + c) % c) && beside (j / c) ((j + c) / c))
    (ap₂ ◌&&◌ (eq-eqb (j % c) ((j + c) % c) (sym (add-mod_right j c)))
    (ap (beside (j / c)) (add-div_right j h ∙ add-one (j / c)) ∙ next_beside (j / c)))

grid_left : (c n m : ℕ) → suc m < c → linked_in (Grid c) n m (suc m) ≡ true
grid_left c n m h =
    let l = le_of_lt h in
    ap (λ (b : Bool). b || eqb (m % c) (suc m % c) && beside (m / c) (suc m / c))
    (ap₂ ◌&&◌ (eq-eqb (m / c) (suc m / c) (div-eq_of_lt l ∙ sym (div-eq_of_lt h)))
    (ap₂ beside (mod-eq_of_lt l) (mod-eq_of_lt h) ∙ next_beside m))

-- a lower node to which i is linked
parent : (t : Topology) (n i : ℕ) → Branched t → 0 < i → (j : ℕ) × (j < i) × (linked_in t n j i ≡ true)
parent t n zero br h = absurd (not-suc-le-zero h)
parent FullMesh n (suc m) br h = (0, zero-lt-suc m, ap not (ne_eqb 0 (suc m) (ne_of_lt (zero-lt-suc m))))
parent Line n (suc m) br h = (m, le_refl (suc m), next_beside m)
parent Star n (suc m) br h = (0, zero-lt-suc m, ap not (ne_eqb 0 (suc m) (ne_of_lt (zero-lt-suc m))))
parent (Grid c) n (suc m) br h =
    ⊎_elim
    (λ e. (m, le_refl (suc m), grid_left c n m (ltb-true (suc m) c e)))
    (λ e.
    let l = ltb-false (suc m) c e in
    (suc m - c, omega arith, subst (λ (x : ℕ). linked_in (Grid c) n (suc m - c) x ≡ true) (sub-add_cancel l) (grid_above c n (suc m - c) br)))
    (two (ltb (suc m) c))
parent Ring n (suc m) br h = (m, le_refl (suc m), ap (λ (b : Bool). b || ltb 2 n && (first_and_last n m (suc m) || first_and_last n (suc m) m)) (next_beside m))
parent (Tree b) n (suc m) br h = (
  m / b,
  suc-le-suc (div-le_self m b),
  ap (λ (x : Bool). x || child b (suc m) (m / b))
      (within_true (m / b * b + 1) (m / b * b + b) (suc m) (omega (arith, div-mul-le_self m b)) (lt-div-mul-add br)),
)

pub rows_joined : (t : Topology) (n : ℕ) → Branched t → Joined (topology_rows t n) n
rows_joined t n br =
    lower_joined (topology_rows t n) n (rows_checked t n)
    (λ i h l. let r = parent t n i br h in (r.0, r.1, linked_in_lem t n r.0 i (lt_trans r.1 l) l ∙ r.2))

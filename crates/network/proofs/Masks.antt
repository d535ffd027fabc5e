-- The sets of nodes that the parts of a topology's rule are made of.
-- Assumes nothing.
use mathlib.Core.Path.{◌≡◌, refl, sym, ap, ap₂, ◌∙◌, subst}
use mathlib.Core.Bool.{Bool, true, false, cond, not, ◌&&◌, ◌||◌, and_comm}
use Prim.Native.Nat.{ℕ, ◌+◌, ◌-◌, ◌*◌, ◌/◌, ◌%◌, ◌^◌, ◌≤◌, ◌<◌}
use native.Mathlib.Nat.{pow-suc, le_refl, le_step, add-zero, mod-lt, div-mul-le_self, lt-div-mul-add, div-add-mod', mul-mod_left, add-mul, one-mul}
use native.Mathlib.Decide.{le_ind}
use native.Mathlib.Omega.{arith}
use borrow.Author.Tests.{eq-eqb, eqb-true, lt-leb, lt-ltb, le-ltb, ltb-true, ltb-false}
use lib.Arith.{digits_div, digits_mod}
use lib.Bits.{bit_or, or_lt}
use lib.Dec.{eqb, leb, ltb}
use lib.Pow.{pow_pos, pow_mono}
use Rattle.network.specs.Graph.{set_of}
use Rattle.network.specs.Topology.{first_and_last, child}
use Rattle.network.proofs.Lowest.{has_less}
use Rattle.network.proofs.Sets.{same, two, has_or, has_full, has_set_of, set_of_lt, set_of_cong, set_of_one, set_ext}
use Rattle.network.proofs.Within.{within_both, within_true}
use mathlib.Core.Logic.{⊎_elim}

-- two tests of numbers that pass together
pub eqb_same : (a b c d : ℕ) → (a ≡ b → c ≡ d) → (c ≡ d → a ≡ b) → eqb a b ≡ eqb c d
eqb_same a b c d f g = same (λ e. eq-eqb c d (f (eqb-true a b e))) (λ e. eq-eqb a b (g (eqb-true c d e)))

pub set_of_or : (n : ℕ) (f g : ℕ → Bool) {s t : ℕ} → s ≡ set_of n f → t ≡ set_of n g → bit_or s t ≡ set_of n (λ j. f j || g j)
set_of_or n f g p q =
    ap₂ bit_or p q
    ∙ set_ext n (or_lt n (set_of n f) (set_of n g) (set_of_lt n f) (set_of_lt n g)) (set_of_lt n (λ j. f j || g j))
    (λ j l. has_or (set_of n f) (set_of n g) j ∙ ap₂ ◌||◌ (has_set_of n f j l) (has_set_of n g j l) ∙ sym (has_set_of n (λ j. f j || g j) j l))

-- a part of a rule under a test, and one without
pub test_yes : (n : ℕ) (f g : ℕ → Bool) {b : Bool} {s t : ℕ} → b ≡ true → s ≡ set_of n f → t ≡ set_of n g → bit_or s t ≡ set_of n (λ j. f j && b || g j)
test_yes n f g {b} e p q = set_of_or n f g p q ∙ set_of_cong n (λ j _. ap (λ (x : Bool). x || g j) (sym (ap (λ (y : Bool). f j && y) e ∙ and_comm (f j) true)))

pub test_no : (n : ℕ) (f g : ℕ → Bool) {b : Bool} {t : ℕ} → b ≡ false → t ≡ set_of n g → t ≡ set_of n (λ j. f j && b || g j)
test_no n f g {b} e q = q ∙ set_of_cong n (λ j _. ap (λ (x : Bool). x || g j) (sym (ap (λ (y : Bool). f j && y) e ∙ and_comm (f j) false)))

-- ---- none, the numbers from m to e - 1, and all but i

set_of_stop : (f : ℕ → Bool) {m n : ℕ} → m ≤ n → ((j : ℕ) → m ≤ j → j < n → f j ≡ false) → set_of n f ≡ set_of m f
unfolding set_of
set_of_stop f {m} {n} l =
    le_ind (λ (n : ℕ). ((j : ℕ) → m ≤ j → j < n → f j ≡ false) → set_of n f ≡ set_of m f) (λ h. refl)
    (λ k q ih h. ap (λ (b : Bool). set_of k f + cond b (2 ^ k) 0) (h k q (le_refl _)) ∙ add-zero (set_of k f) ∙ ih (λ j a b. h j a (le_step b)))
    n l

pub set_of_none : (n : ℕ) (f : ℕ → Bool) → ((j : ℕ) → j < n → f j ≡ false) → set_of n f ≡ 0
unfolding set_of
set_of_none n f h = set_of_stop f {m = 0} {n = n} (omega arith) (λ j a b. h j b)

pub set_of_range : (n m e : ℕ) (f : ℕ → Bool) → m ≤ e → e ≤ n → ((j : ℕ) → j < m → f j ≡ false) → ((j : ℕ) → m ≤ j → j < e → f j ≡ true) → ((j : ℕ) → e ≤ j → j < n → f j ≡ false)
    → set_of n f ≡ 2 ^ e - 1 - (2 ^ m - 1)
unfolding set_of
set_of_range n m e f l u low in-range high =
    set_of_stop f u high
    ∙ le_ind (λ (k : ℕ). k ≤ e → set_of k f ≡ 2 ^ k - 1 - (2 ^ m - 1)) (λ h. omega (arith, set_of_none m f low))
    (λ k q ih h.
    ap (λ (b : Bool). set_of k f + cond b (2 ^ k) 0) (in-range k q h)
    ∙ omega (arith, ih (omega (arith, h)), pow-suc 2 k, pow_pos m, pow_mono q))
    e l (le_refl e)

pub others_set : (n i : ℕ) → i < n → 2 ^ n - 1 - 2 ^ i ≡ set_of n (λ j. not (eqb i j))
others_set n i h =
    set_ext n (omega (arith, pow_pos n)) (set_of_lt n (λ j. not (eqb i j)))
    (λ j l.
    has_less (2 ^ n - 1) i j (has_full n i h)
    ∙ ap₂ (λ (x y : Bool). cond x false y) (eqb_same j i i j sym sym) (has_full n j l)
    ∙ without (eqb i j)
    ∙ sym (has_set_of n (λ j. not (eqb i j)) j l))
  where
    without : (b : Bool) → cond b false true ≡ not b
    without true = refl
    without false = refl

-- ---- one node
pub only_set : (n j : ℕ) → j < n → 2 ^ j ≡ set_of n (eqb j)
only_set n j h = sym (set_of_one n j h) ∙ set_of_cong n (λ b _. eqb_same b j j b sym sym)

-- ---- where a ring closes
pub closes : (n i j : ℕ) {a b : Bool} → 2 < n → eqb i 0 ≡ a → eqb (i + 1) n ≡ b → ltb 2 n && (first_and_last n i j || first_and_last n j i) ≡ (a && eqb (j + 1) n || b && eqb j 0)
closes n i j {a} {b} h p q =
    ap₂ ◌&&◌ (lt-ltb 2 n h) (ap₂ ◌||◌ (ap (λ (x : Bool). x && eqb (j + 1) n) p) (ap (λ (x : Bool). eqb j 0 && x) q ∙ and_comm (eqb j 0) b))

-- ---- the last of a row of c
pub row_ends : (c j : ℕ) → 0 < c → ltb (j % c + 1) c ≡ ltb 0 ((j + 1) % c)
row_ends c j h = ⊎_elim inside last (two (ltb (j % c + 1) c))
  where
    inside : ltb (j % c + 1) c ≡ true → ltb (j % c + 1) c ≡ ltb 0 ((j + 1) % c)
    inside e =
        let q : j / c * c + (j % c + 1) ≡ j + 1 = omega (arith, div-add-mod' j c) in
        e ∙ sym (lt-ltb 0 ((j + 1) % c) (omega (arith, ap (λ (x : ℕ). x % c) (sym q) ∙ digits_mod (j / c) (ltb-true (j % c + 1) c e))))

    last : ltb (j % c + 1) c ≡ false → ltb (j % c + 1) c ≡ ltb 0 ((j + 1) % c)
    last e =
        let q : (j / c + 1) * c ≡ j + 1 = omega (arith, div-add-mod' j c, mod-lt j h, ltb-false (j % c + 1) c e, add-mul (j / c) 1 c, one-mul c) in
        e ∙ sym (le-ltb 0 ((j + 1) % c) (omega (arith, ap (λ (x : ℕ). x % c) (sym q) ∙ mul-mod_left (j / c + 1) c)))

pub left_is : (c i j : ℕ) → 0 < c → (eqb (j + 1) i && ltb (j % c + 1) c) ≡ (eqb (j + 1) i && ltb 0 (i % c))
left_is c i j h =
    ⊎_elim
    (λ e. ap (λ (x : Bool). eqb (j + 1) i && x) (row_ends c j h ∙ ap (λ (x : ℕ). ltb 0 (x % c)) (eqb-true (j + 1) i e)))
    (λ e. ap (λ (x : Bool). x && ltb (j % c + 1) c) e ∙ sym (ap (λ (x : Bool). x && ltb 0 (i % c)) e))
    (two (eqb (j + 1) i))

-- ---- the children in a tree, up to e, and the parent
pub children_set : (b n i e : ℕ) → i * b + 1 ≤ e → e ≤ n → e ≤ i * b + 1 + b → ((j : ℕ) → e ≤ j → j < n → i * b + b < j) → 2 ^ e - 1 - (2 ^ (i * b + 1) - 1) ≡ set_of n (child b i)
children_set b n i e l u w high =
    sym
    (set_of_range n (i * b + 1) e (child b i) l u
    (λ j h. ap (λ (x : Bool). x && leb j (i * b + b)) (lt-leb (i * b + 1) j h))
    (λ j p q. within_true (i * b + 1) (i * b + b) j p (omega (arith, q, w)))
    (λ j p q. ap (λ (x : Bool). leb (i * b + 1) j && x) (lt-leb j (i * b + b) (high j p q)) ∙ and_comm (leb (i * b + 1) j) false))

pub childless : (b i j : ℕ) → b ≡ 0 → child b j i ≡ false
childless b i j z = ⊎_elim (λ e. let r = within_both (j * b + 1) (j * b + b) i e in absurd (omega (arith, z, r.0, r.1))) (λ e. e) (two (child b j i))

pub parent_is : (b i j : ℕ) → 0 < b → 0 < i → eqb ((i - 1) / b) j ≡ child b j i
parent_is b i j hb hi =
    same
    (λ e.
    subst (λ (x : ℕ). child b x i ≡ true) (eqb-true ((i - 1) / b) j e)
    (within_true ((i - 1) / b * b + 1) ((i - 1) / b * b + b) i (omega (arith, div-mul-le_self (i - 1) b)) (omega (arith, lt-div-mul-add {a = i - 1} hb))))
    (λ e.
    let r = within_both (j * b + 1) (j * b + b) i e in
    let q : j * b + (i - 1 - j * b) ≡ i - 1 = omega (arith, r.0) in
    eq-eqb ((i - 1) / b) j (ap (λ (x : ℕ). x / b) (sym q) ∙ digits_div j (omega (arith, r.0, r.1))))

-- Sets of nodes as numbers, and Boolean tests over the numbers below n: the laws of `has`, `set_of`, `any` and `all`.
-- Assumes nothing.
use mathlib.Core.Path.{◌≡◌, refl, sym, ap, ap₂, ◌∙◌, subst}
use mathlib.Core.Bool.{Bool, true, false, cond, ◌&&◌, ◌||◌, beq, true≢false}
use mathlib.Core.Logic.{◌⊎◌, inl, inr, ⊎_elim}
use Prim.Native.Nat.{ℕ, zero, suc, ◌+◌, ◌-◌, ◌*◌, ◌/◌, ◌%◌, ◌^◌, ◌≤◌, ◌<◌, zero-le, suc-le-suc}
use native.Mathlib.Nat.{not-suc-le-zero, le_of_suc-le-suc, eq-or-lt_of_le, le_refl, le_of_eq, le_step, le_of_lt, lt_irrefl, lt_of_lt_of_le, div-eq_of_lt, mod-lt, pow-suc, add-zero, zero-add, add_comm, zero-mul, one-mul, mod-eq_of_lt, div-lt_iff_lt-mul, mul_comm}
use native.Mathlib.Numerals.{add-one}
use native.Mathlib.Omega.{arith}
use lib.Bits.{bit_or, or_shr, or_mod}
use lib.Pow.{pow_pos, pow_mono, pow-lt, split, high, low}
use lib.Dec.{eqb}
use borrow.Author.Tests.{eq-eqb, ne_eqb}
use Rattle.random.proofs.Bits.{bit_low}
pub use Rattle.std.proofs.lemmas.Bool.{cases_Bool as two, and_parts as and_both, or_cases as or_either, or_right}
use Rattle.network.specs.Graph.{has, set_of, any, all, count}

-- ---- Booleans

pub never {ℓ} : {A : Type ℓ} {b : Bool} → b ≡ true → b ≡ false → A
never p q = absurd (true≢false (sym p ∙ q))

-- two tests that pass together are equal
pub same : {a b : Bool} → (a ≡ true → b ≡ true) → (b ≡ true → a ≡ true) → a ≡ b
same {a} {b} f g = ⊎_elim (λ p. p ∙ sym (f p)) (λ p. ⊎_elim (λ q. never (g q) p) (λ q. p ∙ sym q) (two b)) (two a)

pub beq_same : (a b : Bool) → beq a b ≡ true → a ≡ b
beq_same true true e = refl
beq_same true false e = never e refl
beq_same false true e = never e refl
beq_same false false e = refl

pub beq_refl : (a b : Bool) → a ≡ b → beq a b ≡ true
beq_refl true b e = ap (beq true) (sym e)
beq_refl false b e = ap (beq false) (sym e)

-- ---- what holds of every number below n + 1 holds of n, and of every one below n
last_or_below : {k n : ℕ} → k < suc n → (k ≡ n) ⊎ (k < n)
last_or_below h = eq-or-lt_of_le (le_of_suc-le-suc h)

-- ---- `any` and `all`
pub any_intro : (n : ℕ) (f : ℕ → Bool) (i : ℕ) → i < n → f i ≡ true → any n f ≡ true
unfolding any
any_intro zero f i h e = absurd (not-suc-le-zero h)
any_intro (suc n) f i h e =
    ⊎_elim (λ p. or_right (any n f) (f n) (ap f (sym p) ∙ e)) (λ l. ap (λ (b : Bool). b || f n) (any_intro n f i l e)) (last_or_below h)

pub any_elim : (n : ℕ) (f : ℕ → Bool) → any n f ≡ true → (i : ℕ) × (i < n) × (f i ≡ true)
unfolding any
any_elim zero f e = never e refl
any_elim (suc n) f e =
    ⊎_elim (λ p. let r = any_elim n f p in (r.0, le_step r.1, r.2)) (λ p. (n, le_refl (suc n), p)) (or_either (any n f) (f n) e)

pub any_none : (n : ℕ) (f : ℕ → Bool) → any n f ≡ false → (i : ℕ) → i < n → f i ≡ false
any_none n f e i h = ⊎_elim (λ p. never (any_intro n f i h p) e) (λ p. p) (two (f i))

pub any_cong : (n : ℕ) {f g : ℕ → Bool} → ((i : ℕ) → i < n → f i ≡ g i) → any n f ≡ any n g
unfolding any
any_cong zero e = refl
any_cong (suc n) e = ap₂ ◌||◌ (any_cong n (λ i h. e i (le_step h))) (e n (le_refl (suc n)))

pub all_elim : (n : ℕ) (f : ℕ → Bool) → all n f ≡ true → (i : ℕ) → i < n → f i ≡ true
unfolding all
all_elim zero f e i h = absurd (not-suc-le-zero h)
all_elim (suc n) f e i h =
    let r = and_both (all n f) (f n) e in
    ⊎_elim (λ p. ap f p ∙ r.1) (λ l. all_elim n f r.0 i l) (last_or_below h)

pub all_intro : (n : ℕ) (f : ℕ → Bool) → ((i : ℕ) → i < n → f i ≡ true) → all n f ≡ true
unfolding all
all_intro zero f e = refl
all_intro (suc n) f e = ap₂ ◌&&◌ (all_intro n f (λ i h. e i (le_step h))) (e n (le_refl (suc n)))

pub all_false : (n : ℕ) (f : ℕ → Bool) (i : ℕ) → i < n → f i ≡ false → all n f ≡ false
all_false n f i h e = ⊎_elim (λ p. never (all_elim n f p i h) e) (λ p. p) (two (all n f))

pub all_more : (i : ℕ) (f : ℕ → Bool) → all i f ≡ true → f i ≡ true → all (i + 1) f ≡ true
unfolding all
all_more i f e t = ap (λ (k : ℕ). all k f) (add-one i) ∙ ap₂ ◌&&◌ e t

pub all_cong : (n : ℕ) {f g : ℕ → Bool} → ((i : ℕ) → i < n → f i ≡ g i) → all n f ≡ all n g
unfolding all
all_cong zero e = refl
all_cong (suc n) e = ap₂ ◌&&◌ (all_cong n (λ i h. e i (le_step h))) (e n (le_refl (suc n)))

-- ---- a digit of a number
pub has_low : (s n j : ℕ) → j < n → has (s % 2 ^ n) j ≡ has s j
unfolding has
has_low s n j h = ap (λ (x : ℕ). eqb x 1) (bit_low s n j h)

pub has_out : {s n : ℕ} → s < 2 ^ n → (j : ℕ) → n ≤ j → has s j ≡ false
unfolding has
has_out {s} h j l = ap (λ (x : ℕ). eqb (x % 2) 1) (div-eq_of_lt (lt_of_lt_of_le h (pow_mono l)))

pub has_below : {s n : ℕ} → s < 2 ^ n → (j : ℕ) → has s j ≡ true → j < n
has_below {s} {n} h j e = ⊎_elim (λ p. p) (λ p. never e (has_out h j p)) (split_at j n)
  where
    split_at : (j n : ℕ) → (j < n) ⊎ (n ≤ j)
    split_at j zero = inr zero-le
    split_at zero (suc n) = inl (suc-le-suc zero-le)
    split_at (suc j) (suc n) = ⊎_elim (λ p. inl (suc-le-suc p)) (λ p. inr (suc-le-suc p)) (split_at j n)

one_if : Bool → ℕ
one_if b = cond b 1 0

one_if_pow : (n : ℕ) (b : Bool) → cond b (2 ^ n) 0 ≡ one_if b * 2 ^ n
unfolding one_if
one_if_pow n true = sym (one-mul (2 ^ n))
one_if_pow n false = sym (zero-mul (2 ^ n))

one_if_test : (b : Bool) → eqb (one_if b % 2) 1 ≡ b
unfolding one_if
one_if_test true = refl
one_if_test false = refl

set_of_suc : (n : ℕ) (f : ℕ → Bool) → set_of (suc n) f ≡ one_if (f n) * 2 ^ n + set_of n f
unfolding set_of
set_of_suc n f = add_comm (set_of n f) (cond (f n) (2 ^ n) 0) ∙ ap (λ (x : ℕ). x + set_of n f) (one_if_pow n (f n))

pub set_of_lt : (n : ℕ) (f : ℕ → Bool) → set_of n f < 2 ^ n
unfolding set_of
set_of_lt zero f = le_refl 1
set_of_lt (suc n) f =
    subst (λ (x : ℕ). set_of n f + cond (f n) (2 ^ n) 0 < x) (sym (pow-suc 2 n))
    (omega (arith, set_of_lt n f, at_most (f n)))
  where
    at_most : (b : Bool) → cond b (2 ^ n) 0 ≤ 2 ^ n
    at_most true = le_refl (2 ^ n)
    at_most false = zero-le

pub has_set_of : (n : ℕ) (f : ℕ → Bool) (j : ℕ) → j < n → has (set_of n f) j ≡ f j
unfolding has
has_set_of zero f j h = absurd (not-suc-le-zero h)
has_set_of (suc n) f j h =
    ⊎_elim
    (λ p.
    ap (has (set_of (suc n) f)) p
    ∙ ap (λ (x : ℕ). eqb (x % 2) 1) (ap (λ (x : ℕ). x / 2 ^ n) (set_of_suc n f) ∙ high (one_if (f n)) n (set_of_lt n f))
    ∙ one_if_test (f n)
    ∙ ap f (sym p))
    (λ l.
    sym (has_low (set_of (suc n) f) n j l)
    ∙ ap (λ (x : ℕ). has x j) (ap (λ (x : ℕ). x % 2 ^ n) (set_of_suc n f) ∙ low (one_if (f n)) n (set_of_lt n f))
    ∙ has_set_of n f j l)
    (last_or_below h)

pub set_of_cong : (n : ℕ) {f g : ℕ → Bool} → ((j : ℕ) → j < n → f j ≡ g j) → set_of n f ≡ set_of n g
unfolding set_of
set_of_cong zero e = refl
set_of_cong (suc n) e = ap₂ (λ (x : ℕ) (b : Bool). x + cond b (2 ^ n) 0) (set_of_cong n (λ j h. e j (le_step h))) (e n (le_refl (suc n)))

-- a set of nodes below n is the set of the nodes that it has
pub set_of_has : (n s : ℕ) → s < 2 ^ n → set_of n (has s) ≡ s
unfolding set_of has
set_of_has zero s h = sym (lt_one h)
  where
    lt_one : {s : ℕ} → s < 1 → s ≡ 0
    lt_one h = omega arith
set_of_has (suc n) s h =
    ap (λ (x : ℕ). x + cond (has s n) (2 ^ n) 0)
    (set_of_cong n (λ j l. sym (has_low s n j l)) ∙ set_of_has n (s % 2 ^ n) (mod-lt s (pow_pos n)))
    ∙ add_comm (s % 2 ^ n) (cond (has s n) (2 ^ n) 0)
    ∙ ap (λ (x : ℕ). x + s % 2 ^ n) (top (s / 2 ^ n) ((div-lt_iff_lt-mul (pow_pos n)).1 (subst (λ (x : ℕ). s < x) (pow-suc 2 n ∙ mul_comm (2 ^ n) 2) h)))
    ∙ split s n
  where
    top : (q : ℕ) → q < 2 → cond (eqb (q % 2) 1) (2 ^ n) 0 ≡ q * 2 ^ n
    top zero l = sym (zero-mul (2 ^ n))
    top (suc zero) l = sym (one-mul (2 ^ n))
    top (suc (suc q)) l = absurd (not-suc-le-zero (le_of_suc-le-suc (le_of_suc-le-suc l)))

pub set_ext : (n : ℕ) {s t : ℕ} → s < 2 ^ n → t < 2 ^ n → ((j : ℕ) → j < n → has s j ≡ has t j) → s ≡ t
set_ext n {s} {t} hs ht e = sym (set_of_has n s hs) ∙ set_of_cong n e ∙ set_of_has n t ht

-- all nodes below n
pub set_of_all : (n : ℕ) → set_of n (λ j. true) ≡ 2 ^ n - 1
unfolding set_of
set_of_all zero = refl
set_of_all (suc n) = omega (arith, set_of_all n, pow-suc 2 n, pow_pos n)

pub has_full : (n j : ℕ) → j < n → has (2 ^ n - 1) j ≡ true
has_full n j h = ap (λ (s : ℕ). has s j) (sym (set_of_all n)) ∙ has_set_of n (λ j. true) j h

-- the set of a alone
none_yet : (m a : ℕ) → m ≤ a → set_of m (λ b. eqb b a) ≡ 0
unfolding set_of
none_yet zero a l = refl
none_yet (suc m) a l =
    ap₂ (λ (x : ℕ) (b : Bool). x + cond b (2 ^ m) 0) (none_yet m a (le_of_lt l)) (ne_eqb m a (λ p. lt_irrefl a (subst (λ (x : ℕ). x < a) p l)))

pub set_of_one : (n a : ℕ) → a < n → set_of n (λ b. eqb b a) ≡ 2 ^ a
unfolding set_of
set_of_one zero a h = absurd (not-suc-le-zero h)
set_of_one (suc n) a h =
    ⊎_elim
    (λ p.
    ap₂ (λ (x : ℕ) (b : Bool). x + cond b (2 ^ n) 0) (none_yet n a (le_of_eq (sym p))) (eq-eqb n a (sym p))
    ∙ zero-add (2 ^ n)
    ∙ ap (λ (x : ℕ). 2 ^ x) (sym p))
    (λ l.
    ap₂ (λ (x : ℕ) (b : Bool). x + cond b (2 ^ n) 0) (set_of_one n a l) (ne_eqb n a (λ p. lt_irrefl a (subst (λ (x : ℕ). a < x) p l)))
    ∙ add-zero (2 ^ a))
    (last_or_below h)

pub has_one : (n a b : ℕ) → a < n → b < n → has (2 ^ a) b ≡ eqb b a
has_one n a b ha hb = ap (λ (s : ℕ). has s b) (sym (set_of_one n a ha)) ∙ has_set_of n (λ x. eqb x a) b hb

-- the union
pub has_or : (s t j : ℕ) → has (bit_or s t) j ≡ has s j || has t j
unfolding has
has_or s t j =
    ap (λ (x : ℕ). eqb x 1) (ap (λ (x : ℕ). x % 2) (or_shr s t j) ∙ or_mod (s / 2 ^ j) (t / 2 ^ j) 1)
    ∙ digit (s / 2 ^ j % 2) (t / 2 ^ j % 2) (mod-lt (s / 2 ^ j) (lit 2)) (mod-lt (t / 2 ^ j) (lit 2))
  where
    lit : (n : ℕ) → 0 < 2
    lit n = omega arith

    digit : (x y : ℕ) → x < 2 → y < 2 → eqb (bit_or x y) 1 ≡ eqb x 1 || eqb y 1
    digit zero y hx hy = refl
    digit (suc zero) zero hx hy = refl
    digit (suc zero) (suc zero) hx hy = refl
    digit (suc zero) (suc (suc y)) hx hy = absurd (not-suc-le-zero (le_of_suc-le-suc (le_of_suc-le-suc hy)))
    digit (suc (suc x)) y hx hy = absurd (not-suc-le-zero (le_of_suc-le-suc (le_of_suc-le-suc hx)))

-- ---- how many numbers below n have f
pub count_le : (n : ℕ) (f : ℕ → Bool) → count n f ≤ n
unfolding count
count_le zero f = zero-le
count_le (suc n) f = omega (arith, count_le n f, at_most (f n))
  where
    at_most : (b : Bool) → cond b 1 0 ≤ 1
    at_most true = le_refl 1
    at_most false = zero-le

bits_le : (a b : Bool) → (a ≡ true → b ≡ true) → cond a 1 0 ≤ cond b 1 0
bits_le true b h = subst (λ (x : Bool). 1 ≤ cond x 1 0) (sym (h refl)) (le_refl 1)
bits_le false b h = zero-le

pub count_mono : (n : ℕ) (f g : ℕ → Bool) → ((i : ℕ) → i < n → f i ≡ true → g i ≡ true) → count n f ≤ count n g
unfolding count
count_mono zero f g h = zero-le
count_mono (suc n) f g h = omega (arith, count_mono n f g (λ i l. h i (le_step l)), bits_le (f n) (g n) (h n (le_refl (suc n))))

-- one more number has g: the count is greater
pub count_lt : (n : ℕ) (f g : ℕ → Bool) → ((i : ℕ) → i < n → f i ≡ true → g i ≡ true) → (j : ℕ) → j < n → f j ≡ false → g j ≡ true → count n f < count n g
unfolding count
count_lt zero f g h j l p q = absurd (not-suc-le-zero l)
count_lt (suc n) f g h j l p q =
    ⊎_elim
    (λ e. omega (arith, count_mono n f g (λ i l. h i (le_step l)), ap {B = ℕ} (λ (b : Bool). cond b 1 0) (ap f (sym e) ∙ p), ap {B = ℕ} (λ (b : Bool). cond b 1 0) (ap g (sym e) ∙ q)))
    (λ m. omega (arith, count_lt n f g (λ i l. h i (le_step l)) j m p q, bits_le (f n) (g n) (h n (le_refl (suc n)))))
    (last_or_below l)

-- ---- the set of node j alone, as a word of w bits has it
pub one_shl : (w j : ℕ) → j < w → 1 * 2 ^ j % 2 ^ w ≡ 2 ^ j
one_shl w j h = ap (λ (x : ℕ). x % 2 ^ w) (one-mul (2 ^ j)) ∙ mod-eq_of_lt (pow-lt h)

-- The union and the size of the definitions are what `|` and `count_ones` give of words. Assumes nothing.
use Prim.Native.Nat.{ℕ, zero, suc, ◌+◌, ◌-◌, ◌*◌, ◌/◌, ◌%◌, ◌^◌, ◌<◌, max}
use mathlib.Core.Bool.{true, false, cond}
use mathlib.Core.Logic.{◌⊎◌, inl, inr}
use mathlib.Core.Path.{◌≡◌, refl, sym, ap, ◌∙◌}
use native.Mathlib.Nat.{one-mul, zero-add, pow-suc, add-mul-div_right, div-eq_of_lt, zero-div}
use native.Mathlib.Numerals.{add-one}
use native.Mathlib.Omega.{arith}
use lib.Arith.{lt-one}
use lib.Bits.{bit_or, or_step, or_zero_l}
use lib.Count.{ones_in, ones, ones_step}
use lib.Dec.{lit<, eqb, ltb}
use borrow.Author.Tests.{eqb-true, eqb-false, ltb-true, ltb-false}
use lib.Pow.{pow_pos, pow-add, pow-lt, high, shr_lt, shl_exact}
use Rattle.network.proofs.Lowest.{half_shift}
use Rattle.protocol.specs.Paxos.{union_in, union, size, vote}
use Rattle.protocol.proofs.Places.{either}

pub half_lt : (k a : ℕ) → a < 2 ^ suc k → a / 2 < 2 ^ k
half_lt k a h = shr_lt k 1 (rw add-one h)

union_in_lem : (k a b : ℕ) → a < 2 ^ k → b < 2 ^ k → union_in k a b ≡ bit_or a b
unfolding union_in
union_in_lem zero a b ha hb = rw (lt-one ha, lt-one hb, or_zero_l)
union_in_lem (suc k) a b ha hb =
    ap (λ (x : ℕ). x * 2 + max (a % 2) (b % 2)) (union_in_lem k (a / 2) (b / 2) (half_lt k a ha) (half_lt k b hb)) ∙
    sym (or_step a b)

pub union_or : (a b : ℕ) → a < 2 ^ 64 → b < 2 ^ 64 → union a b ≡ bit_or a b
unfolding union
union_or a b ha hb = union_in_lem 64 a b ha hb

size_ones_in : (k a : ℕ) → a < 2 ^ k → ones_in k a ≡ ones a
unfolding ones_in ones
size_ones_in zero a h = rw (lt-one h)
size_ones_in (suc k) a h =
    ap (λ (x : ℕ). a % 2 + x) (size_ones_in k (a / 2) (half_lt k a h)) ∙ sym (ones_step a)

pub size_ones : (a : ℕ) → a < 2 ^ 64 → size a ≡ ones a
unfolding size
size_ones a h = size_ones_in 64 a h

pub one_bit : (i : ℕ) → ones (2 ^ i) ≡ 1
unfolding ones
one_bit zero = refl
one_bit (suc i) =
    let half : 2 ^ suc i / 2 ≡ 2 ^ i = omega (arith, pow-suc 2 i) in
    omega (arith, ones_step (2 ^ suc i), ap ones half, one_bit i, pow-suc 2 i)

pub size_vote : (i : ℕ) → i < 64 → size (vote i) ≡ 1
size_vote i h = size_ones (2 ^ i) (pow-lt h) ∙ one_bit i

-- one bit of a word
pub bit_word : (t : ℕ) → t < 64 → (1 * 2 ^ t) % 2 ^ 64 ≡ 2 ^ t
bit_word t h = shl_exact 1 t 64 (lit< tt) (omega arith) ∙ one-mul (2 ^ t)

union_assoc_in : (k a b c : ℕ) → union_in k (union_in k a b) c ≡ union_in k a (union_in k b c)
unfolding union_in
union_assoc_in zero a b c = refl
union_assoc_in (suc k) a b c =
    let ab = union_in k (a / 2) (b / 2) in
    let bc = union_in k (b / 2) (c / 2) in
    let e : (ab * 2 + max (a % 2) (b % 2)) / 2 ≡ ab = omega arith in
    let f : (bc * 2 + max (b % 2) (c % 2)) / 2 ≡ bc = omega arith in
    let m : max ((ab * 2 + max (a % 2) (b % 2)) % 2) (c % 2) ≡ max (a % 2) ((bc * 2 + max (b % 2) (c % 2)) % 2) = omega arith in
    rw (e, f, m) (ap (λ (x : ℕ). x * 2 + max (a % 2) ((bc * 2 + max (b % 2) (c % 2)) % 2)) (union_assoc_in k (a / 2) (b / 2) (c / 2)))

pub union_assoc : (a b c : ℕ) → union (union a b) c ≡ union a (union b c)
unfolding union
union_assoc a b c = union_assoc_in 64 a b c

-- ---- by nodes

union_bit_in : (k i a b : ℕ) → i < k → union_in k a b / 2 ^ i % 2 ≡ max (a / 2 ^ i % 2) (b / 2 ^ i % 2)
unfolding union_in
union_bit_in zero i a b h = absurd (omega arith)
union_bit_in (suc k) zero a b h = omega arith
union_bit_in (suc k) (suc i) a b h =
    let e : (union_in k (a / 2) (b / 2) * 2 + max (a % 2) (b % 2)) / 2 ≡ union_in k (a / 2) (b / 2) = omega arith in
    rw (half_shift (union_in k (a / 2) (b / 2) * 2 + max (a % 2) (b % 2)) i, half_shift a i, half_shift b i, e)
    (union_bit_in k i (a / 2) (b / 2) (omega arith))

-- node i is in a union exactly if it is in one of the two
pub union_bit : (i a b : ℕ) → i < 64 → union a b / 2 ^ i % 2 ≡ max (a / 2 ^ i % 2) (b / 2 ^ i % 2)
unfolding union
union_bit i a b h = union_bit_in 64 i a b h

-- a higher bit leaves a lower one alone
pub add_high : (t k n : ℕ) → t < k → (n + 2 ^ k) / 2 ^ t % 2 ≡ n / 2 ^ t % 2
add_high t k n h =
    let m = k - t - 1 in
    let e : k ≡ suc m + t = omega arith in
    let f : 2 ^ k ≡ 2 ^ suc m * 2 ^ t = ap (λ (x : ℕ). 2 ^ x) e ∙ pow-add 2 (suc m) t in
    let g : (n + 2 ^ k) / 2 ^ t ≡ n / 2 ^ t + 2 ^ suc m =
    ap (λ (x : ℕ). (n + x) / 2 ^ t) f ∙ add-mul-div_right n (2 ^ suc m) (pow_pos t) in
    rw g (omega (arith, pow-suc 2 m))

-- a bit of a number below it is not set
pub low_bit : (t n : ℕ) → n < 2 ^ t → n / 2 ^ t % 2 ≡ 0
low_bit t n h = rw (div-eq_of_lt h)

-- the bit that is added is set
pub own_bit : (t n : ℕ) → n < 2 ^ t → (n + 2 ^ t) / 2 ^ t % 2 ≡ 1
own_bit t n h =
    let e : n + 2 ^ t ≡ 1 * 2 ^ t + n = omega arith in
    rw (e, high 1 t h)

-- the set of node i alone has node i and no other
pub vote_bit : (i j : ℕ) → vote i / 2 ^ j % 2 ≡ cond (eqb j i) 1 0
vote_bit i j = go (either (eqb j i)) (either (ltb j i))
  where
    go : (eqb j i ≡ true) ⊎ (eqb j i ≡ false) → (ltb j i ≡ true) ⊎ (ltb j i ≡ false) → vote i / 2 ^ j % 2 ≡ cond (eqb j i) 1 0
    go (inl e) l = rw (e, eqb-true j i e) (rw zero-add at (own_bit i 0 (pow_pos i)))
    go (inr e) (inl l) = rw e (rw zero-add at (add_high j i 0 (ltb-true j i l)) ∙ rw (zero-div (2 ^ j)))
    go (inr e) (inr l) = rw e (low_bit j (2 ^ i) (pow-lt (omega (arith, ltb-false j i l, eqb-false j i e))))

union_lt_in : (k a b : ℕ) → union_in k a b < 2 ^ k
unfolding union_in
union_lt_in zero a b = omega arith
union_lt_in (suc k) a b = omega (arith, union_lt_in k (a / 2) (b / 2), pow-suc 2 k)

pub union_lt : (a b : ℕ) → union a b < 2 ^ 64
unfolding union
union_lt a b = union_lt_in 64 a b

-- ---- one node more

size_joined_none : (k a : ℕ) → ones_in k (union_in k a 0) ≡ ones_in k a
unfolding ones_in union_in
size_joined_none zero a = refl
size_joined_none (suc k) a =
    let e : (union_in k (a / 2) 0 * 2 + max (a % 2) 0) / 2 ≡ union_in k (a / 2) 0 = omega arith in
    rw e (omega (arith, size_joined_none k (a / 2)))

size_more_in : (k i a : ℕ) → i < k → a / 2 ^ i % 2 ≡ 0 → ones_in k (union_in k a (2 ^ i)) ≡ ones_in k a + 1
unfolding ones_in union_in
size_more_in zero i a h e = absurd (omega arith)
size_more_in (suc k) zero a h e =
    let f : (union_in k (a / 2) 0 * 2 + max (a % 2) 1) / 2 ≡ union_in k (a / 2) 0 = omega arith in
    rw f (omega (arith, size_joined_none k (a / 2)))
size_more_in (suc k) (suc i) a h e =
    let half : 2 ^ suc i / 2 ≡ 2 ^ i = omega (arith, pow-suc 2 i) in
    let even : 2 ^ suc i % 2 ≡ 0 = omega (arith, pow-suc 2 i) in
    let f : (union_in k (a / 2) (2 ^ i) * 2 + max (a % 2) 0) / 2 ≡ union_in k (a / 2) (2 ^ i) = omega arith in
    rw (half, even, f)
    (omega (arith, size_more_in k i (a / 2) (omega arith) (sym (ap (λ (x : ℕ). x % 2) (half_shift a i)) ∙ e)))

-- a node that is not in a set makes it greater by one
pub size_more : (a i : ℕ) → i < 64 → a / 2 ^ i % 2 ≡ 0 → size (union a (vote i)) ≡ size a + 1
unfolding size union
size_more a i h e = size_more_in 64 i a h e

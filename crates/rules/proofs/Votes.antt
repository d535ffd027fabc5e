-- Unions of sets of nodes, and the set of the initiators of consecutive rounds. Assumes nothing.
use Prim.Native.Nat.{ℕ, zero, suc, ◌+◌, ◌-◌, ◌*◌, ◌/◌, ◌%◌, ◌^◌, ◌<◌, ◌≤◌, max}
use mathlib.Core.Bool.{Bool, true, false, cond}
use mathlib.Core.Path.{◌≡◌, refl, sym, ap, ap₂, ◌∙◌}
use native.Mathlib.Nat.{mod-lt, mod-eq_of_lt, mod-add-mod, mod-eq-sub-mod, add-zero, add-suc, add_assoc, zero-div}
use native.Mathlib.Omega.{arith}
use borrow.Author.Tests.{ne_eqb, ltb-true, ltb-false}
use lib.Dec.{ltb}
use lib.Pow.{pow-lt, pow_pos}
use Rattle.protocol.specs.Paxos.{union_in, union, size, vote}
use Rattle.protocol.proofs.Sets.{half_lt, union_lt, union_bit, vote_bit, union_assoc, size_more}

-- ---- unions

comm_in : (k a b : ℕ) → union_in k a b ≡ union_in k b a
unfolding union_in
comm_in zero a b = refl
comm_in (suc k) a b =
    let m : max (a % 2) (b % 2) ≡ max (b % 2) (a % 2) = omega arith in
    ap₂ (λ (x y : ℕ). x * 2 + y) (comm_in k (a / 2) (b / 2)) m

same_in : (k a : ℕ) → a < 2 ^ k → union_in k a a ≡ a
unfolding union_in
same_in zero a h = omega arith
same_in (suc k) a h =
    let e = same_in k (a / 2) (half_lt k a h) in
    omega (arith, e)

none_in : (k a : ℕ) → a < 2 ^ k → union_in k 0 a ≡ a
unfolding union_in
none_in zero a h = omega arith
none_in (suc k) a h =
    let e : union_in k (0 / 2) (a / 2) ≡ a / 2 = none_in k (a / 2) (half_lt k a h) in
    omega (arith, e)

pub union_comm : (a b : ℕ) → union a b ≡ union b a
unfolding union
union_comm a b = comm_in 64 a b

pub union_same : (a : ℕ) → a < 2 ^ 64 → union a a ≡ a
unfolding union
union_same a h = same_in 64 a h

pub union_none : (a : ℕ) → a < 2 ^ 64 → union 0 a ≡ a
unfolding union
union_none a h = none_in 64 a h

pub vote_lt : (i : ℕ) → i < 64 → vote i < 2 ^ 64
vote_lt i h = pow-lt h

-- what is joined twice
pub union_twice : (a b : ℕ) → b < 2 ^ 64 → union (union a b) b ≡ union a b
union_twice a b h = union_assoc a b b ∙ ap (union a) (union_same b h)

pub union_swap : (a b c : ℕ) → union (union a b) c ≡ union (union a c) b
union_swap a b c = union_assoc a b c ∙ ap (union a) (union_comm b c) ∙ sym (union_assoc a c b)

-- ---- the initiators of the m rounds from t on

unfoldable pub starters : ℕ → ℕ → ℕ → ℕ
starters n t zero = 0
starters n t (suc m) = union (starters n t m) (vote ((t + m) % n))

pub starters_lt : (n t m : ℕ) → starters n t m < 2 ^ 64
unfolding starters
starters_lt n t zero = pow_pos 64
starters_lt n t (suc m) = union_lt (starters n t m) (vote ((t + m) % n))

-- fewer than n apart, they differ
pub initiators_differ : (n a d : ℕ) → 0 < d → d < n → a % n ≡ (a + d) % n → ⊥
initiators_differ n a d h l e = go (a % n) (mod-lt a (omega arith)) (e ∙ sym (mod-add-mod a n d))
  where
    go : (r : ℕ) → r < n → r ≡ (r + d) % n → ⊥
    go r b q = past (ltb (r + d) n) refl
      where
        past : (x : Bool) → ltb (r + d) n ≡ x → ⊥
        past true p = let s = ltb-true (r + d) n p in omega (arith, q, mod-eq_of_lt s)
        past false p =
            let s : n ≤ r + d = ltb-false (r + d) n p in
            let w : r + d - n < n = omega arith in
            omega (arith, q, mod-eq-sub-mod s, mod-eq_of_lt w)

not_started : (n t m j : ℕ) → j < 64 → ((i : ℕ) → i < m → j ≡ (t + i) % n → ⊥) → starters n t m / 2 ^ j % 2 ≡ 0
unfolding starters
not_started n t zero j h f = rw (zero-div (2 ^ j))
not_started n t (suc m) j h f =
    union_bit j (starters n t m) (vote ((t + m) % n)) h
    ∙ ap₂ max (not_started n t m j h (λ i l. f i (omega arith))) (vote_bit ((t + m) % n) j ∙ ap {B = ℕ} (λ (b : Bool). cond b 1 0) (ne_eqb j ((t + m) % n) (f m (omega arith))))

size_0 : size 0 ≡ 0
unfolding size
size_0 = refl

-- up to n of them are as many nodes
pub size_starters : (n t m : ℕ) → 0 < n → n ≤ 64 → m ≤ n → size (starters n t m) ≡ m
unfolding starters
size_starters n t zero h w l = size_0
size_starters n t (suc m) h w l =
    size_more (starters n t m) ((t + m) % n) (omega (arith, mod-lt (t + m) h))
    (not_started n t m ((t + m) % n) (omega (arith, mod-lt (t + m) h)) (λ i b q. initiators_differ n (t + i) (m - i) (omega arith) (omega arith) (sym q ∙ ap (λ (x : ℕ). x % n) (far i b))))
    ∙ omega (arith, size_starters n t m h w (omega arith))
  where
    far : (i : ℕ) → i < m → t + m ≡ t + i + (m - i)
    far i b = omega arith

-- those of later rounds are among them
pub starters_split : (n t a m : ℕ) → starters n t (a + m) ≡ union (starters n t a) (starters n (t + a) m)
unfolding starters
starters_split n t a zero = rw (add-zero a) (sym (union_comm (starters n t a) 0 ∙ union_none (starters n t a) (starters_lt n t a)))
starters_split n t a (suc m) =
    rw (add-suc a m)
    (ap₂ (λ (x y : ℕ). union x (vote (y % n))) (starters_split n t a m) (sym (add_assoc t a m))
    ∙ union_assoc (starters n t a) (starters n (t + a) m) (vote ((t + a + m) % n)))

-- The lowest and the highest node of a set, a set without some of its nodes, and a set taken apart from its lowest node on, as a loop by
-- `trailing_zeros` does. Assumes nothing.
use mathlib.Core.Path.{◌≡◌, refl, sym, ap, ◌∙◌, subst}
use mathlib.Core.Bool.{Bool, true, false, cond, not, ◌&&◌}
use mathlib.Core.Logic.{◌⊎◌, inl, inr, ⊎_elim}
use Prim.Native.Nat.{ℕ, zero, suc, ◌+◌, ◌-◌, ◌*◌, ◌/◌, ◌%◌, ◌^◌, ◌≤◌, ◌<◌, min}
use native.Mathlib.Nat.{pow-suc, mod-lt, div-one, eq-or-lt_of_le}
use native.Mathlib.Numerals.{one-add}
use native.Mathlib.Omega.{arith}
use borrow.Author.Count.{below_more}
use borrow.Author.Tests.{eqb-true, eqb-false, leb-true, leb-false, ltb-true, ltb-false, ne_eqb}
use lib.Bits.{bit_and, and_step, and_le_l, and_self}
use lib.Count.{under, count_trailing_zeros, count_leading_zeros, leading_top}
use lib.Dec.{eqb, leb, ltb, eqb-zero-suc, eqb-suc-zero, eqb-suc-suc}
use lib.Pow.{shr-shr, high}
use Rattle.network.specs.Graph.{has}
use Rattle.network.specs.Members.{TakesLowest}
use Rattle.network.proofs.Sets.{two, never, has_out}

-- ---- one binary digit

pub half_shift : (x i : ℕ) → x / 2 ^ suc i ≡ x / 2 / 2 ^ i
half_shift x i = ap (λ (j : ℕ). x / 2 ^ j) (sym (one-add i)) ∙ sym (shr-shr x 1 i)

-- a node of a set is a part of its number
pub has_le : (t p : ℕ) → has p t ≡ true → 2 ^ t ≤ p
has_le t p e = ⊎_elim (λ w. leb-true (2 ^ t) p w) (λ w. never e (has_out {n = t} (leb-false (2 ^ t) p w) t (omega arith))) (two (leb (2 ^ t) p))

bit_zero : (x : ℕ) → x < 2 → eqb x 1 ≡ false → x ≡ 0
bit_zero zero h e = refl
bit_zero (suc zero) h e = never refl e
bit_zero (suc (suc x)) h e = absurd (omega arith)

pub bit_of : (p t : ℕ) → has p t ≡ true → p / 2 ^ t % 2 ≡ 1
unfolding has
bit_of p t e = eqb-true (p / 2 ^ t % 2) 1 e

pub no_bit_of : (p t : ℕ) → has p t ≡ false → p / 2 ^ t % 2 ≡ 0
unfolding has
no_bit_of p t e = bit_zero (p / 2 ^ t % 2) (mod-lt (p / 2 ^ t) (omega arith)) e

has_half : (s j : ℕ) → has s (suc j) ≡ has (s / 2) j
unfolding has
has_half s j = ap (λ (x : ℕ). eqb (x % 2) 1) (half_shift s j)

has_first : (s : ℕ) → has s 0 ≡ eqb (s % 2) 1
unfolding has
has_first s = ap (λ (x : ℕ). eqb (x % 2) 1) (div-one s)

-- ---- a set without one of its nodes

less_bit : (t j p : ℕ) → p / 2 ^ t % 2 ≡ 1 → 2 ^ t ≤ p → (p - 2 ^ t) / 2 ^ j % 2 ≡ cond (eqb j t) 0 (p / 2 ^ j % 2)
less_bit zero zero p h g = omega arith
less_bit zero (suc j) p h g =
    let e : (p - 1) / 2 ≡ p / 2 = omega arith in
    rw (eqb-suc-zero j, half_shift (p - 1) j, e, half_shift p j)
less_bit (suc t) zero p h g =
    rw (eqb-zero-suc t) (omega (arith, pow-suc 2 t))
less_bit (suc t) (suc j) p h g =
    let e : (p - 2 ^ suc t) / 2 ≡ p / 2 - 2 ^ t = omega (arith, pow-suc 2 t) in
    let l : 2 ^ t ≤ p / 2 = omega (arith, pow-suc 2 t) in
    rw (eqb-suc-suc j t, half_shift (p - 2 ^ suc t) j, e, half_shift p j)
    (less_bit t j (p / 2) (ap (λ (x : ℕ). x % 2) (sym (half_shift p t)) ∙ h) l)

pub has_less : (p t j : ℕ) → has p t ≡ true → has (p - 2 ^ t) j ≡ cond (eqb j t) false (has p j)
unfolding has
has_less p t j e =
    ap (λ (x : ℕ). eqb x 1) (less_bit t j p (bit_of p t e) (has_le t p e)) ∙ go (eqb j t)
  where
    go : (b : Bool) → eqb (cond b 0 (p / 2 ^ j % 2)) 1 ≡ cond b false (eqb (p / 2 ^ j % 2) 1)
    go true = refl
    go false = refl

-- ---- a set without the nodes of another

halves : (a q y : ℕ) → q ≤ a / 2 → y < 2 →
    ((a - (q * 2 + min (a % 2) y)) / 2 ≡ a / 2 - q) × ((a - (q * 2 + min (a % 2) y)) % 2 ≡ a % 2 - min (a % 2) y)
halves a q zero h g = (omega arith, omega arith)
halves a q (suc zero) h g = (omega arith, omega arith)
halves a q (suc (suc y)) h g = absurd (omega arith)

minus_bit : (j a b : ℕ) → (a - bit_and a b) / 2 ^ j % 2 ≡ a / 2 ^ j % 2 - min (a / 2 ^ j % 2) (b / 2 ^ j % 2)
minus_bit zero a b =
    rw (div-one (a - bit_and a b), div-one a, div-one b, and_step a b) (halves a (bit_and (a / 2) (b / 2)) (b % 2) (and_le_l (a / 2) (b / 2)) (mod-lt b (omega arith))).1
minus_bit (suc j) a b =
    let e : (a - bit_and a b) / 2 ≡ a / 2 - bit_and (a / 2) (b / 2) =
    rw (and_step a b) (halves a (bit_and (a / 2) (b / 2)) (b % 2) (and_le_l (a / 2) (b / 2)) (mod-lt b (omega arith))).0 in
    rw (half_shift (a - bit_and a b) j, e, half_shift a j, half_shift b j) (minus_bit j (a / 2) (b / 2))

pub has_minus : (a b j : ℕ) → has (a - bit_and a b) j ≡ (has a j && not (has b j))
unfolding has
has_minus a b j =
    ap (λ (x : ℕ). eqb x 1) (minus_bit j a b) ∙
    digit (a / 2 ^ j % 2) (b / 2 ^ j % 2) (mod-lt (a / 2 ^ j) (omega arith)) (mod-lt (b / 2 ^ j) (omega arith))
  where
    digit : (x y : ℕ) → x < 2 → y < 2 → eqb (x - min x y) 1 ≡ (eqb x 1 && not (eqb y 1))
    digit zero zero hx hy = refl
    digit zero (suc zero) hx hy = refl
    digit zero (suc (suc y)) hx hy = absurd (omega arith)
    digit (suc zero) zero hx hy = refl
    digit (suc zero) (suc zero) hx hy = refl
    digit (suc zero) (suc (suc y)) hx hy = absurd (omega arith)
    digit (suc (suc x)) y hx hy = absurd (omega arith)

-- ---- the lowest node and the highest

pub record Lowest (w s t : ℕ) : Type 0 where
  pub within : t < w
  pub is : has s t ≡ true
  pub below : (j : ℕ) → j < t → has s j ≡ false

lowest_even : (w s t : ℕ) → s % 2 ≡ 0 → Lowest w (s / 2) t → Lowest (suc w) s (suc t)
lowest_even w s t e r = record { within = omega (arith, r.within); is = has_half s t ∙ r.is; below = lower }
  where
    lower : (j : ℕ) → j < suc t → has s j ≡ false
    lower zero b = has_first s ∙ ap (λ (x : ℕ). eqb x 1) e
    lower (suc j) b = has_half s j ∙ r.below j (omega (arith, b))

lowest_of : (w s t : ℕ) → (s % 2 ≡ 0 → Lowest w (s / 2) t) → (d : ℕ) → d < 2 → s % 2 ≡ d → Lowest (suc w) s (under d t)
lowest_of w s t f zero l e = lowest_even w s t e (f e)
lowest_of w s t f (suc zero) l e =
    record { within = omega arith; is = has_first s ∙ ap (λ (x : ℕ). eqb x 1) e; below = λ j b. absurd (omega (arith, b)) }
lowest_of w s t f (suc (suc d)) l e = absurd (omega (arith, l))

pub lowest : (w s : ℕ) → s < 2 ^ w → (s ≡ 0 → ⊥) → Lowest w s (count_trailing_zeros w s)
unfolding count_trailing_zeros
lowest zero s h p = absurd (p (omega (arith, h)))
lowest (suc w) s h p =
    lowest_of w s (count_trailing_zeros w (s / 2))
    (λ e. lowest w (s / 2) (omega (arith, h, pow-suc 2 w)) (λ q. p (omega (arith, q, e))))
    (s % 2) (mod-lt s (omega arith)) refl

-- z is the number of places above the highest node
pub record Highest (w s z : ℕ) : Type 0 where
  pub within : z < w
  pub is : has s (w - 1 - z) ≡ true
  pub above : s < 2 ^ (w - z)

top_digit : (s j : ℕ) → 2 ^ j ≤ s → s < 2 ^ suc j → has s j ≡ true
unfolding has
top_digit s j l u =
    let lo = s - 2 ^ j in
    let e : s ≡ 1 * 2 ^ j + lo = omega (arith, l) in
    ap (λ (x : ℕ). eqb (x % 2) 1) (ap (λ (x : ℕ). x / 2 ^ j) e ∙ high 1 j (omega (arith, u, l, pow-suc 2 j)))

pub highest : (w s : ℕ) → s < 2 ^ w → (s ≡ 0 → ⊥) → Highest w s (count_leading_zeros w s)
highest w s h p =
    let t = leading_top w s (⊎_elim (λ e. absurd (p (sym e))) (λ l. l) (eq-or-lt_of_le (omega arith))) h in
    let e : w - 1 - count_leading_zeros w s ≡ t.0 = omega (arith, t.1) in
    let f : w - count_leading_zeros w s ≡ suc t.0 = omega (arith, t.1) in
    record {
      within = omega (arith, t.1);
      is = ap (has s) e ∙ top_digit s t.0 t.2 t.3;
      above = subst (λ (x : ℕ). s < 2 ^ x) (sym f) t.3;
    }

-- ---- a set taken apart from its lowest node on

-- rest has the nodes of s from m on
pub record Walked (s rest m : ℕ) : Type 0 where
  pub part : rest ≤ s
  pub inside : (j : ℕ) → m ≤ j → has s j ≡ has rest j
  pub after : (j : ℕ) → j < m → has rest j ≡ false

-- as a walk begins, all of the set is left
pub walk_begins : {s rest : ℕ} → rest ≡ s → Walked s rest 0
walk_begins e = record { part = omega (arith, e); inside = λ j l. ap (λ (r : ℕ). has r j) (sym e); after = λ j l. absurd (omega (arith, l)) }

pub walked_none : (s : ℕ) → Walked s s 0
walked_none s = walk_begins refl

pub has_zero : (j : ℕ) → has 0 j ≡ false
has_zero j = has_out {n = 0} (omega arith) j (omega arith)

-- and as it ends, none of it
pub walk_ends : {s rest m : ℕ} → Walked s rest m → rest ≡ 0 → (j : ℕ) → m ≤ j → has s j ≡ false
walk_ends x e j l = x.inside j l ∙ ap (λ (r : ℕ). has r j) e ∙ has_zero j

pub walked_all : {s m : ℕ} → Walked s 0 m → (j : ℕ) → m ≤ j → has s j ≡ false
walked_all x j l = walk_ends x refl j l

pub nonzero : {x : ℕ} → (x ≡ 0 → ⊥) → 1 ≤ x
nonzero p = ⊎_elim (λ e. absurd (p (sym e))) (λ l. l) (eq-or-lt_of_le (omega arith))

-- a set without its lowest node
drop_of : (w s t : ℕ) → (s ≡ 0 → ⊥) → (s % 2 ≡ 0 → bit_and (s / 2) (s / 2 - 1) ≡ s / 2 - 2 ^ t) → (d : ℕ) → d < 2 → s % 2 ≡ d → bit_and s (s - 1) ≡ s - 2 ^ under d t
drop_of w s t p f zero l e =
    let h : (s - 1) / 2 ≡ s / 2 - 1 = omega (arith, e, p) in
    and_step s (s - 1) ∙ rw (h, f e, e) (omega (arith, e, pow-suc 2 t))
drop_of w s t p f (suc zero) l e =
    let h : (s - 1) / 2 ≡ s / 2 = omega (arith, e) in
    let g : (s - 1) % 2 ≡ 0 = omega (arith, e) in
    and_step s (s - 1) ∙ rw (h, g, and_self (s / 2)) (omega (arith, e))
drop_of w s t p f (suc (suc d)) l e = absurd (omega (arith, l))

pub drop_lowest : (w s : ℕ) → s < 2 ^ w → (s ≡ 0 → ⊥) → bit_and s (s - 1) ≡ s - 2 ^ count_trailing_zeros w s
unfolding count_trailing_zeros
drop_lowest zero s h p = absurd (p (omega (arith, h)))
drop_lowest (suc w) s h p =
    drop_of w s (count_trailing_zeros w (s / 2)) p
    (λ e. drop_lowest w (s / 2) (omega (arith, h, pow-suc 2 w)) (λ q. p (omega (arith, q, e))))
    (s % 2) (mod-lt s (omega arith)) refl

-- t is the next member of s from m on, and `left` has those behind it
pub record Taken (s m t left : ℕ) : Type 0 where
  pub within : t < 64
  pub from : m ≤ t
  pub is : has s t ≡ true
  pub none : (j : ℕ) → m ≤ j → j < t → has s j ≡ false
  pub onward : Walked s left (t + 1)

pub walked_take : {s rest m t left : ℕ} → Walked s rest m → TakesLowest rest t left → Taken s m t left
walked_take {s} {rest} {m} {t} {left} x l =
    let from : m ≤ t = ⊎_elim (λ u. leb-true m t u) (λ u. never l.is (x.after t (leb-false m t u))) (two (leb m t)) in
    let without : (j : ℕ) → has left j ≡ cond (eqb j t) false (has rest j) = λ j.
    ap (λ (y : ℕ). has y j) (omega (arith, l.left)) ∙ has_less rest t j l.is in
    record {
      within = l.within;
      from = from;
      is = x.inside t from ∙ l.is;
      none = λ j a b. x.inside j a ∙ l.below j b;
      onward = record {
        part = omega (arith, x.part, l.left);
        inside = λ j a. x.inside j (omega (arith, from, a)) ∙ sym (without j ∙ ap (λ (b : Bool). cond b false (has rest j)) (ne_eqb j t (λ e. absurd (omega (arith, e, a)))));
        after = λ j b. without j ∙ gone j b (two (eqb j t));
      };
    }
  where
    gone : (j : ℕ) → j < t + 1 → (eqb j t ≡ true) ⊎ (eqb j t ≡ false) → cond (eqb j t) false (has rest j) ≡ false
    gone j b (inl e) = ap (λ (y : Bool). cond y false (has rest j)) e
    gone j b (inr e) = ap (λ (y : Bool). cond y false (has rest j)) e ∙ l.below j (omega (arith, b, eqb-false j t e))

-- what holds of the members below m, of those that s does not have, and of t, holds of those below t + 1
pub taken_passed : {s m t left : ℕ} (P : ℕ → Type 0) → Taken s m t left → ((j : ℕ) → j < m → P j) → ((j : ℕ) → has s j ≡ false → P j) → P t → (j : ℕ) → j < t + 1 → P j
taken_passed {m = m} {t = t} P x f g p =
    below_more P t (λ j l. ⊎_elim (λ e. f j (ltb-true j m e)) (λ e. g j (x.none j (ltb-false j m e) l)) (two (ltb j m))) p

-- and where none is left, of every node
pub walked_each : {s rest m : ℕ} (P : ℕ → Type 0) → Walked s rest m → rest ≡ 0 → ((j : ℕ) → j < m → P j) → ((j : ℕ) → has s j ≡ false → P j) → (j : ℕ) → P j
walked_each {m = m} P x done f g j = ⊎_elim (λ e. f j (ltb-true j m e)) (λ e. g j (walk_ends x done j (ltb-false j m e))) (two (ltb j m))

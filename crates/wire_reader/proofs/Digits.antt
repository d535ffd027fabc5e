-- Reading a number of one or two digits: the number that is spelled is read, and nothing else. Assumes nothing.
use Prim.Native.Nat.{ℕ, ◌+◌, ◌*◌, ◌/◌, ◌%◌, ◌≤◌, ◌<◌}
use mathlib.Core.Path.{◌≡◌, refl, ap, ◌∙◌}
use mathlib.Core.Bool.{Bool, true, false, cond, ◌&&◌, and-false}
use Rattle.std.specs.Prelude.{None, Some}
use Rattle.std.proofs.lemmas.Option.{none-some}
use mathlib.Core.List.{List, [], ◌∷◌, ◌++◌}
use mathlib.Core.Logic.{⊎_elim}
use native.Mathlib.Omega.{arith}
use lib.Dec.{leb, ltb}
use borrow.Author.Tests.{lt-ltb, le-ltb, ltb-true, ltb-false, leb-true}
use Rattle.network.proofs.Sets.{and_both, two}
use Rattle.text.specs.Text.{spelled}
use Rattle.text.specs.Numeral.{digit}
use Rattle.text.proofs.Numerals.{digit_low, digit_figure, digit_middle, digit_letter, digit_high}
use Rattle.text.proofs.Spelling.{spelled_low, spelled_high}
use Rattle.wire_reader.specs.Reader.{give, below, second_digit, number}
use Rattle.wire_reader.proofs.Words.{Claim, Finds, Only, give_finds}

-- ---- digits

pub digit_of : {d : ℕ} → d < 10 → digit (48 + d) ≡ d
digit_of h = digit_figure (omega arith) (omega arith) ∙ omega arith

-- a byte that is a decimal digit
pub figure : (b : ℕ) → digit b < 10 → b ≡ 48 + digit b
figure b h = case (ltb b 48) (ltb 57 b) (ltb b 97) (ltb 102 b) refl refl refl refl
  where
    case : (p q r s : Bool) → ltb b 48 ≡ p → ltb 57 b ≡ q → ltb b 97 ≡ r → ltb 102 b ≡ s → b ≡ 48 + digit b
    case true q r s e₁ e₂ e₃ e₄ = absurd (omega (arith, digit_low (ltb-true b 48 e₁)))
    case false false r s e₁ e₂ e₃ e₄ = let low = ltb-false b 48 e₁ in omega (arith, digit_figure low (ltb-false 57 b e₂))
    case false true true s e₁ e₂ e₃ e₄ = absurd (omega (arith, digit_middle (ltb-true 57 b e₂) (ltb-true b 97 e₃)))
    case false true false false e₁ e₂ e₃ e₄ = let letter = ltb-false b 97 e₃ in absurd (omega (arith, digit_letter letter (ltb-false 102 b e₄)))
    case false true false true e₁ e₂ e₃ e₄ = absurd (omega (arith, digit_high (ltb-true 102 b e₄)))

pub spelled_two : (n : ℕ) → 10 ≤ n → n < 100 → spelled n ≡ (48 + n / 10) ∷ (48 + n % 10) ∷ []
spelled_two n h h' = rw (spelled_high n h, spelled_low (n / 10) (omega arith))

-- no digit stands at the front
unfoldable pub stops : List ℕ → Bool
stops [] = true
stops (b ∷ t) = leb 10 (digit b)

-- ---- the number that is spelled is read

below_reads : (bound n : ℕ) (t : List ℕ) → n < bound → below bound n t ≡ Some (n, t)
unfolding below
below_reads bound n t h = simp (lt-ltb n bound h)

one_reads : (bound d : ℕ) (t : List ℕ) → d < bound → stops t ≡ true → second_digit bound d t ≡ Some (d, t)
unfolding second_digit stops
one_reads bound d [] h e = below_reads bound d [] h
one_reads bound d (b ∷ t) h e = simp (le-ltb (digit b) 10 (leb-true 10 (digit b) e), and-false) (below_reads bound d (b ∷ t) h)

two_read : (bound d e : ℕ) (t : List ℕ) → 0 < d → e < 10 → 10 * d + e < bound → second_digit bound d ((48 + e) ∷ t) ≡ Some (10 * d + e, t)
unfolding second_digit
two_read bound d e t p h b = simp (digit_of h, lt-ltb 0 d p, lt-ltb e 10 h) (below_reads bound (10 * d + e) t b)

pub number_reads : (bound n : ℕ) (t : List ℕ) → bound ≤ 100 → n < bound → stops t ≡ true → number bound (spelled n ++ t) ≡ Some (n, t)
unfolding number
number_reads bound n t most h e = ⊎_elim (λ p. low (ltb-true n 10 p)) (λ p. high (ltb-false n 10 p)) (two (ltb n 10))
  where
    low : n < 10 → number bound (spelled n ++ t) ≡ Some (n, t)
    low l = rw (spelled_low n l) (simp (digit_of l, lt-ltb n 10 l) (one_reads bound n t h e))

    high : 10 ≤ n → number bound (spelled n ++ t) ≡ Some (n, t)
    high l =
        let ten : n / 10 < 10 = omega arith in
        let parts : 10 * (n / 10) + n % 10 ≡ n = omega arith in
        rw (spelled_two n l (omega arith))
        (simp (digit_of ten, lt-ltb (n / 10) 10 ten)
        (two_read bound (n / 10) (n % 10) t (omega arith) (omega arith) (omega arith) ∙ ap (λ k. Some (k, t)) parts))

-- ---- nothing else is read

-- a number below the bound is given, and nothing is taken
below_finds : (bound m : ℕ) (Q : Claim ℕ) → ((t : List ℕ) → m < bound → Q m t t) → Finds (below bound m) Q
unfolding below give
below_finds bound m Q h t n u e = case (ltb m bound) refl e
  where
    case : (q : Bool) → ltb m bound ≡ q → cond q (give m t) None ≡ Some (n, u) → Q n t u
    case true q e = give_finds m Q (λ v. h v (ltb-true m bound q)) t n u e
    case false q e = absurd (none-some (n, u) e)

-- behind the first digit
one_finds : (bound d : ℕ) → d < 10 → Finds (below bound d) (λ n t u. (n < bound) × ((48 + d) ∷ t ≡ spelled n ++ u))
one_finds bound d h = below_finds bound d _ (λ t b. (b, rw (spelled_low d h)))

two_find : (bound d b : ℕ) → 0 < d → d < 10 → digit b < 10
    → Finds (below bound (10 * d + digit b)) (λ n t u. (n < bound) × ((48 + d) ∷ b ∷ t ≡ spelled n ++ u))
two_find bound d b p h h' = below_finds bound (10 * d + digit b) _ found
  where
    found : (t : List ℕ) → 10 * d + digit b < bound → (10 * d + digit b < bound) × ((48 + d) ∷ b ∷ t ≡ spelled (10 * d + digit b) ++ t)
    found t l =
        let first : (10 * d + digit b) / 10 ≡ d = omega arith in
        let second : 48 + (10 * d + digit b) % 10 ≡ b = omega (arith, figure b h') in
        (l, rw (spelled_two (10 * d + digit b) (omega arith) (omega arith), first, second))

second_finds : (bound d : ℕ) → d < 10 → Finds (second_digit bound d) (λ n t u. (n < bound) × ((48 + d) ∷ t ≡ spelled n ++ u))
unfolding second_digit
second_finds bound d h [] n u e = one_finds bound d h [] n u e
second_finds bound d h (b ∷ t) n u e = case (ltb 0 d && ltb (digit b) 10) refl e
  where
    case : (q : Bool) → ltb 0 d && ltb (digit b) 10 ≡ q → cond q (below bound (10 * d + digit b) t) (below bound d (b ∷ t)) ≡ Some (n, u)
        → (n < bound) × ((48 + d) ∷ b ∷ t ≡ spelled n ++ u)
    case true q e =
        let digits = and_both (ltb 0 d) (ltb (digit b) 10) q in
        two_find bound d b (ltb-true 0 d digits.0) h (ltb-true (digit b) 10 digits.1) t n u e
    case false q e = one_finds bound d h (b ∷ t) n u e

pub number_only : (bound : ℕ) → Only (number bound) (λ n. n < bound) spelled
unfolding number
number_only bound [] n u e = absurd (none-some (n, u) e)
number_only bound (a ∷ t) n u e = case (ltb (digit a) 10) refl e
  where
    case : (q : Bool) → ltb (digit a) 10 ≡ q → cond q (second_digit bound (digit a) t) None ≡ Some (n, u) → (n < bound) × (a ∷ t ≡ spelled n ++ u)
    case true q e =
        let h = ltb-true (digit a) 10 q in
        let found = second_finds bound (digit a) h t n u e in
        (found.0, ap (λ b. b ∷ t) (figure a h) ∙ found.1)
    case false q e = absurd (none-some (n, u) e)

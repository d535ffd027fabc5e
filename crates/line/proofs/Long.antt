-- A line of 210 bytes or more is not readable, so the first 210 bytes of the input decide. Assumes nothing.
use Prim.Native.Nat.{ℕ, zero, suc, ◌+◌, ◌*◌, ◌≤◌, ◌<◌}
use mathlib.Core.Path.{◌≡◌, refl, sym, ap, ◌∙◌}
use mathlib.Core.Bool.{Bool, true, false, cond, ◌&&◌}
use Rattle.std.specs.Prelude.{Option, Some, None, Result, Err}
use Rattle.std.specs.Option.{ok_or}
use mathlib.Core.List.{List, [], ◌∷◌}
use native.Mathlib.Omega.{arith}
use lib.Dec.{eqb, leb}
use lib.ListN.{length, get_or, take, length-take}
use lib.Seq.{take_all}
use borrow.Author.Count.{below_none, below_more}
use borrow.Author.Tests.{eqb-true, leb-true, leb-false}
use Rattle.line.specs.Line.{bytes_before, fields, is_dash, slots_present, round_slots_of, ◌>>=◌, four_decimals, read_fields, read_line}
use Rattle.text.specs.Numeral.{decimal, hexadecimal}
use Rattle.line.specs.declared.read.Line.{Line}
use Rattle.config.specs.declared.refusal.Refusal.{Refusal}
use Rattle.line.proofs.Fields.{weight, weight_fields}

abbrev Short : List (List ℕ) → ℕ → Type 0
Short fs j = length (get_or fs j []) ≤ 20

weight_short : (fs : List (List ℕ)) → ((j : ℕ) → j < length fs → Short fs j) → weight fs ≤ 21 * length fs
weight_short [] h = omega arith
weight_short (f ∷ fs) h =
    let head : length f ≤ 20 = h 0 (omega arith) in
    omega (arith, head, weight_short fs (λ j b. h (suc j) (omega arith)))

-- a field that is readable passed its tests
guard : {A : Type 0} (b : Bool) (o : Option A) {a : A} → cond b o None ≡ Some a → b ≡ true
guard true o e = refl
guard false o e = let z : ◌≡◌ {A = ℕ} 0 1 = cc in absurd (omega arith)

both : (a b : Bool) → (a && b) ≡ true → (a ≡ true) × (b ≡ true)
both true b e = (refl, e)
both false b e = let z : ◌≡◌ {A = ℕ} 0 1 = cc in absurd (omega arith)

decimal_short : (t : List ℕ) {n : ℕ} → decimal t ≡ Some n → length t ≤ 20
unfolding decimal
decimal_short t e = leb-true (length t) 20 (both (leb 1 (length t)) (leb (length t) 20) (guard _ _ e)).1

hexadecimal_short : (t : List ℕ) {n : ℕ} → hexadecimal t ≡ Some n → length t ≤ 20
unfolding hexadecimal
hexadecimal_short t e = omega (arith, eqb-true (length t) 16 (guard _ _ e))

dash_short : (t : List ℕ) → is_dash t ≡ true → length t ≤ 20
unfolding is_dash
dash_short t e = omega (arith, eqb-true (length t) 1 (both (eqb (length t) 1) _ e).0)

slots_short : (t : List ℕ) {s : Option ℕ} → round_slots_of t ≡ Some s → length t ≤ 20
unfolding round_slots_of
slots_short t {s} e = case (is_dash t) refl e
  where
    number : (o : Option ℕ) → slots_present o ≡ Some s → (n : ℕ) × (o ≡ Some n)
    number None e = let z : ◌≡◌ {A = ℕ} 0 1 = cc in absurd (omega arith)
    number (Some n) e = (n, refl)

    case : (b : Bool) → is_dash t ≡ b → cond b (Some None) (slots_present (decimal t)) ≡ Some s → length t ≤ 20
    case true q e = dash_short t q
    case false q e = decimal_short t (number (decimal t) e).1

-- a field that is readable, and what follows it
field : {A : Type 0} (o : Option A) (k : A → Option Line) → ((a : A) → o ≡ Some a → k a ≡ None) → (o >>= k) ≡ None
field None k h = refl
field (Some a) k h = h a refl

four : (fs : List (List ℕ)) (k : ℕ) (next : ℕ → ℕ → ℕ → ℕ → Option Line)
    → ((a b c d : ℕ) → Short fs k → Short fs (k + 1) → Short fs (k + 2) → Short fs (k + 3) → next a b c d ≡ None)
    → four_decimals fs k next ≡ None
unfolding four_decimals
four fs k next h =
    field _ _ λ a p. field _ _ λ b q. field _ _ λ c r. field _ _ λ d s.
    h a b c d (decimal_short _ p) (decimal_short _ q) (decimal_short _ r) (decimal_short _ s)

long_fields : (fs : List (List ℕ)) → length fs ≡ 10 → 210 < weight fs → read_fields fs ≡ None
unfolding read_fields
long_fields fs ten h =
    four fs 0 _ λ _ _ _ _ s0 s1 s2 s3.
    field _ _ λ _ p. field _ _ λ _ q.
    four fs 6 _ λ _ _ _ _ s6 s7 s8 s9.
    let s4 = slots_short (get_or fs 4 []) p in
    let s5 = hexadecimal_short (get_or fs 5 []) q in
    let m = below_more (Short fs) in
    let all : (j : ℕ) → j < 10 → Short fs j =
    m 9 (m 8 (m 7 (m 6 (m 5 (m 4 (m 3 (m 2 (m 1 (m 0 (below_none (Short fs)) s0) s1) s2) s3) s4) s5) s6) s7) s8) s9 in
    absurd (omega (arith, weight_short fs (λ j b. all j (omega arith))))

-- what a line is read as
abbrev readable : List ℕ → Result Line Refusal
readable l = cond (eqb (length (fields l)) 10) (ok_or (read_fields (fields l)) Refusal.UnreadableLine) (Err Refusal.UnreadableLine)

long_line : (l : List ℕ) → 210 ≤ length l → readable l ≡ Err Refusal.UnreadableLine
long_line l h = case (eqb (length (fields l)) 10) refl
  where
    case : (t : Bool) → eqb (length (fields l)) 10 ≡ t
        → cond t (ok_or (read_fields (fields l)) Refusal.UnreadableLine) (Err Refusal.UnreadableLine) ≡ Err Refusal.UnreadableLine
    case true e = rw (long_fields (fields l) (eqb-true _ 10 e) (omega (arith, weight_fields l)))
    case false e = refl

-- the line in the first n bytes of an input
before_take : (stop n : ℕ) (l : List ℕ) → bytes_before stop (take n l) ≡ take n (bytes_before stop l)
unfolding bytes_before
before_take stop zero l = refl
before_take stop (suc n) [] = refl
before_take stop (suc n) (b ∷ bs) = case (before_take stop n bs) (eqb b stop)
  where
    case : bytes_before stop (take n bs) ≡ take n (bytes_before stop bs) → (t : Bool) → cond t [] (b ∷ bytes_before stop (take n bs)) ≡ take (suc n) (cond t [] (b ∷ bytes_before stop bs))
    case e true = refl
    case e false = ap (λ l. b ∷ l) e

pub first_bytes_decide : (n : ℕ) → 210 ≤ n → (input : List ℕ) → read_line (take n input) ≡ read_line input
unfolding read_line
first_bytes_decide n h input = ap readable (before_take 10 n input) ∙ case (leb (length (bytes_before 10 input)) n) refl
  where
    case : (t : Bool) → leb (length (bytes_before 10 input)) n ≡ t → readable (take n (bytes_before 10 input)) ≡ readable (bytes_before 10 input)
    case true e = ap readable (take_all n (bytes_before 10 input) (leb-true _ n e))
    case false e =
        let longer : n < length (bytes_before 10 input) = leb-false _ n e in
        long_line (take n (bytes_before 10 input)) (omega (arith, length-take n (bytes_before 10 input))) ∙ sym (long_line (bytes_before 10 input) (omega arith))

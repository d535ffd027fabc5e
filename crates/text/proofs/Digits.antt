-- The digits of a number, laid from the last to the first. Assumes nothing.
use Prim.Native.Nat.{ℕ, ◌+◌, ◌-◌, ◌/◌, ◌%◌, ◌^◌, ◌≤◌, ◌<◌}
use mathlib.Core.Path.{◌≡◌, refl, sym, ap, ◌∙◌}
use mathlib.Core.Bool.{Bool, true, false}
use mathlib.Core.List.{List, [], ◌∷◌, ◌++◌, append_assoc}
use native.Mathlib.Omega.{arith}
use lib.Dec.{ltb}
use lib.ListN.{length, take, drop, set, length-append}
use borrow.Author.Tests.{ltb-true, ltb-false}
use Rattle.std.proofs.lemmas.List.{drop-set, length-drop, length-set, take_all}
use Rattle.text.specs.Text.{spelled}
use Rattle.text.proofs.Spelling.{spelled_low, spelled_high, spelled_short}

-- a number has a digit
spelled_some : (n : ℕ) → 1 ≤ length (spelled n)
spelled_some n = case (ltb n 10) refl
  where
    case : (t : Bool) → ltb n 10 ≡ t → 1 ≤ length (spelled n)
    case true e = rw (spelled_low n (ltb-true n 10 e)) (omega arith)
    case false e = rw (spelled_high n (ltb-false n 10 e)) (omega (arith, length-append (spelled (n / 10)) ((48 + n % 10) ∷ [])))

-- The places of a list behind `first` hold the last digits of n, and the digits of `rest` are in front of them.
pub record Spells (n rest first : ℕ) (l : List ℕ) : Type 0 where
  pub inside : first < 20
  pub size : length l ≡ 20
  pub digits : spelled n ≡ spelled rest ++ drop (first + 1) l

module _ {n rest first : ℕ} {l : List ℕ} (s : Spells n rest first l) where
  -- where there are digits, there is a place in front
  pub spells_room : n < 2 ^ 64 → 10 ≤ rest → 1 ≤ first
  spells_room h high =
      let all = spelled_short 20 n (omega arith) (omega arith) in
      let front : length (spelled n) ≡ length (spelled rest) + length (drop (first + 1) l) =
      ap length s.digits ∙ length-append (spelled rest) (drop (first + 1) l) in
      let two : length (spelled rest) ≡ length (spelled (rest / 10)) + 1 =
      ap length (spelled_high rest high) ∙ length-append (spelled (rest / 10)) ((48 + rest % 10) ∷ []) in
      omega (arith, all, front, two, spelled_some (rest / 10), length-drop (first + 1) l, s.size, s.inside)

  pub spells_more : n < 2 ^ 64 → 10 ≤ rest → Spells n (rest / 10) (first - 1) (set l first (48 + rest % 10))
  spells_more h high =
      let next : first - 1 + 1 ≡ first = omega (arith, spells_room h high) in
      record {
        inside = omega (arith, s.inside);
        size = length-set l first (48 + rest % 10) ∙ s.size;
        digits =
            s.digits
            ∙ rw (next, spelled_high rest high, drop-set l first (48 + rest % 10) (omega (arith, s.inside, s.size)))
            (append_assoc (spelled (rest / 10)) ((48 + rest % 10) ∷ []) (drop (first + 1) l));
      }

  pub spells_all : rest < 10 → take (20 - first) (drop first (set l first (48 + rest))) ≡ spelled n
  spells_all low =
      let laid = set l first (48 + rest) in
      take_all (20 - first) (drop first laid) (omega (arith, length-drop first laid, length-set l first (48 + rest), s.size))
      ∙ drop-set l first (48 + rest) (omega (arith, s.inside, s.size)) ∙ sym (s.digits ∙ rw (spelled_low rest low) refl)

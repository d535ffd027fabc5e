-- Numbers as bytes, the lowest first, and lists of bytes compared. Assumes nothing.
use Prim.Native.Nat.{ℕ, zero, suc, ◌+◌, ◌*◌, ◌/◌, ◌%◌, ◌^◌, ◌-◌, ◌≤◌, ◌<◌}
use mathlib.Core.Path.{◌≡◌, refl, sym, ap, ◌∙◌}
use mathlib.Core.Bool.{Bool, true, false, ◌&&◌, and_assoc, true≢false}
use mathlib.Core.List.{List, [], ◌∷◌, ◌++◌, append_assoc, append-nil}
use mathlib.Core.Logic.{◌⊎◌, inl, inr, ⊎_elim}
use native.Mathlib.Nat.{pow-suc, pow-le-pow_right, add-zero, lt_of_lt_of_le}
use native.Mathlib.Numerals.{add-one}
use native.Mathlib.Omega.{arith}
use borrow.Rule.Slice.PartMut.{put_mid, Post-is}
use borrow.Author.Tests.{eq-eqb, eqb-true, ltb-true, ltb-false}
use lib.Dec.{eqb, ltb}
use lib.ListN.{length, get_or, take, drop, set, length-append, length-take, length-drop, take-append-drop, drop_of_length-le, get_or-eq_default}
use lib.Seq.{sets, sets-eq, drop-cons, get_or-append-add, get_or-take, get_or-drop, length-take-le, take-suc, take_at, drop-drop, drop-append-add}
use Rattle.std.proofs.lemmas.Slice.Eq.{bytes_eq-Decides}
use Rattle.archive.specs.Bytes.{byte_values, number_size, bytes_of, number_of, numbers_bytes, number_in, AreBytes, same_bytes}

-- ---- tests

pub two : (b : Bool) → (b ≡ true) ⊎ (b ≡ false)
two true = inl refl
two false = inr refl

pub both : (a b : Bool) → (a && b) ≡ true → (a ≡ true) × (b ≡ true)
both true b e = (refl, e)
both false b e = absurd (true≢false (sym e))

-- two tests that say the same
pub same_tests : (a b : Bool) → (a ≡ true → b ≡ true) → (b ≡ true → a ≡ true) → a ≡ b
same_tests true b f g = sym (f refl)
same_tests false true f g = g refl
same_tests false false f g = refl

pub no_test : (b : Bool) → (b ≡ true → ⊥) → b ≡ false
no_test b h = same_tests b false (λ e. absurd (h e)) (λ e. absurd (true≢false (sym e)))

-- ---- a number's bytes

pub length_bytes : (size x : ℕ) → length (bytes_of size x) ≡ size
unfolding bytes_of
length_bytes zero x = refl
length_bytes (suc size) x = ap suc (length_bytes size (x / byte_values))

pub number_lt : (bytes : List ℕ) → AreBytes bytes → number_of bytes < byte_values ^ length bytes
unfolding number_of
number_lt [] are = omega arith
number_lt (b ∷ bs) are =
    let low : b < byte_values = are 0 in
    omega (arith, number_lt bs (λ i. are (suc i)), pow-suc byte_values (length bs))

pub number_bytes : (size x : ℕ) → x < byte_values ^ size → number_of (bytes_of size x) ≡ x
unfolding number_of bytes_of
number_bytes zero x small = omega arith
number_bytes (suc size) x small = omega (arith, number_bytes size (x / byte_values) (omega (arith, pow-suc byte_values size)))

pub bytes_number : (bytes : List ℕ) → AreBytes bytes → bytes_of (length bytes) (number_of bytes) ≡ bytes
unfolding number_of bytes_of
bytes_number [] are = refl
bytes_number (b ∷ bs) are =
    let low : b < byte_values = are 0 in
    let first : (b + byte_values * number_of bs) % byte_values ≡ b = omega arith in
    let others : (b + byte_values * number_of bs) / byte_values ≡ number_of bs = omega arith in
    rw (first, others) (ap (λ (l : List ℕ). b ∷ l) (bytes_number bs (λ i. are (suc i))))

pub bytes_sized : (size : ℕ) (bytes : List ℕ) → length bytes ≡ size → AreBytes bytes → bytes_of size (number_of bytes) ≡ bytes
bytes_sized size bytes e are = rw (← e) (bytes_number bytes are)

-- a part of bytes
pub bytes_part : (bytes : List ℕ) → AreBytes bytes → (size at : ℕ) → AreBytes (take size (drop at bytes))
bytes_part bytes are size at i = ⊎_elim (λ e. inside (ltb-true _ _ e)) (λ e. outside (ltb-false _ _ e)) (two (ltb i size))
  where
    inside : i < size → get_or (take size (drop at bytes)) i 0 < byte_values
    inside h = rw (get_or-take size (drop at bytes) i 0 h, get_or-drop at bytes i 0) (are (at + i))

    outside : size ≤ i → get_or (take size (drop at bytes)) i 0 < byte_values
    outside h = omega (arith, get_or-eq_default (take size (drop at bytes)) 0 {n = i} (omega (arith, length-take size (drop at bytes))))

pub number_in_lt : (bytes : List ℕ) → AreBytes bytes → (size at most : ℕ) → size ≤ most → number_in size at bytes < byte_values ^ most
number_in_lt bytes are size at most h =
    let part : List ℕ = take size (drop at bytes) in
    lt_of_lt_of_le
    (number_lt part (bytes_part bytes are size at))
    (pow-le-pow_right (omega arith) (omega (arith, length-take size (drop at bytes))))

-- a number read from its last byte on, as far as the bytes that are left
pub record ReadBack (bytes left : List ℕ) (number : ℕ) : Type 0 where
  pub read : List ℕ
  pub whole : bytes ≡ left ++ read
  pub value : number ≡ number_of read

pub read_none : (bytes : List ℕ) → ReadBack bytes bytes 0
unfolding number_of
read_none bytes = record { read = []; whole = sym (append-nil bytes); value = refl }

pub read_more :
    {bytes left others : List ℕ} {number : ℕ} (byte : ℕ) → left ≡ others ++ (byte ∷ []) → ReadBack bytes left number → ReadBack bytes others (byte + byte_values * number)
unfolding number_of
read_more {bytes} {left} {others} {number} byte e r =
    record {
      read = byte ∷ r.read;
      whole = r.whole ∙ ap (λ (l : List ℕ). l ++ r.read) e ∙ append_assoc others (byte ∷ []) r.read;
      value = ap (λ n. byte + byte_values * n) r.value;
    }

pub read_lt : {bytes left : List ℕ} {number : ℕ} (most : ℕ) → AreBytes bytes → length bytes ≤ most → ReadBack bytes left number → number < byte_values ^ most
read_lt {bytes} {left} {number} most are few r =
    let long : length bytes ≡ length left + length r.read = ap length r.whole ∙ length-append left r.read in
    let each : AreBytes r.read =
    λ i. omega (arith, are (length left + i), ap (λ (l : List ℕ). get_or l (length left + i) 0) r.whole, get_or-append-add left r.read i 0) in
    let small : number_of r.read < byte_values ^ most = lt_of_lt_of_le (number_lt r.read each) (pow-le-pow_right (omega arith) (omega (arith, long))) in
    omega (arith, small, r.value)

-- ---- numbers one behind the other

pub length_numbers : (xs : List ℕ) → length (numbers_bytes xs) ≡ number_size * length xs
unfolding numbers_bytes
length_numbers [] = refl
length_numbers (x ∷ xs) = omega (arith, length-append (bytes_of number_size x) (numbers_bytes xs), length_bytes number_size x, length_numbers xs)

pub numbers_append : (xs ys : List ℕ) → numbers_bytes (xs ++ ys) ≡ numbers_bytes xs ++ numbers_bytes ys
unfolding numbers_bytes
numbers_append [] ys = refl
numbers_append (x ∷ xs) ys = rw (numbers_append xs ys) (sym (append_assoc (bytes_of number_size x) (numbers_bytes xs) (numbers_bytes ys)))

-- number i of them, read
pub number_at :
    (xs : List ℕ) (i : ℕ) → i < length xs → get_or xs i 0 < byte_values ^ number_size →
    number_in number_size (number_size * i) (numbers_bytes xs) ≡ get_or xs i 0
unfolding numbers_bytes
number_at [] i h small = absurd (omega arith)
number_at (x ∷ xs) zero h small = rw (take_at (bytes_of number_size x) (numbers_bytes xs) number_size (length_bytes number_size x)) (number_bytes number_size x small)
number_at (x ∷ xs) (suc i) h small =
    let more : number_size * suc i ≡ length (bytes_of number_size x) + number_size * i = omega (arith, length_bytes number_size x) in
    rw (more, drop-append-add (bytes_of number_size x) (numbers_bytes xs) (number_size * i)) (number_at xs i (omega arith) small)

-- the numbers in bytes, so many from number i on
abbrev pub numbers_from : List ℕ → ℕ → ℕ → List ℕ
numbers_from bytes i zero = []
numbers_from bytes i (suc n) = number_in number_size (number_size * i) bytes ∷ numbers_from bytes (suc i) n

pub numbers_again :
    (bytes : List ℕ) → AreBytes bytes → (n i : ℕ) → number_size * (i + n) ≡ length bytes →
    numbers_bytes (numbers_from bytes i n) ≡ drop (number_size * i) bytes
unfolding numbers_bytes
numbers_again bytes are zero i e = sym (drop_of_length-le bytes {i = number_size * i} (omega arith))
numbers_again bytes are (suc n) i e =
    let part : List ℕ = drop (number_size * i) bytes in
    let next : number_size * suc i ≡ number_size * i + number_size = omega arith in
    let here : bytes_of number_size (number_of (take number_size part)) ≡ take number_size part =
    bytes_sized number_size (take number_size part) (length-take-le number_size part (omega (arith, length-drop (number_size * i) bytes))) (bytes_part bytes are number_size (number_size * i)) in
    rw (here, numbers_again bytes are n (suc i) (omega arith), next, ← drop-drop number_size (number_size * i) bytes) (take-append-drop number_size part)

pub sets_append : (l : List ℕ) (i : ℕ) (s t : List ℕ) → sets l i (s ++ t) ≡ sets (sets l i s) (i + length s) t
sets_append l i [] t = rw (add-zero i)
sets_append l i (b ∷ s) t =
    let e : i + suc (length s) ≡ suc i + length s = omega arith in
    sets_append (set l i b) (suc i) s t ∙ ap (λ n. sets (sets (set l i b) (suc i) s) n t) (sym e)

-- a list written over another of its length
pub sets_all : (l ys : List ℕ) → length ys ≡ length l → sets l 0 ys ≡ ys
sets_all l ys e =
    let none : drop (0 + length ys) l ≡ [] = drop_of_length-le l {i = 0 + length ys} (omega arith) in
    sets-eq ys l 0 (omega arith) ∙ ap (λ (rest : List ℕ). ys ++ rest) none ∙ append-nil ys

-- and over a part of another
pub sets_part : (l ys : List ℕ) (at e : ℕ) → e ≡ at + length ys → e ≤ length l → put_mid at (e - at) l ys ≡ sets l at ys
sets_part l ys at e is fits =
    ap (λ (rest : List ℕ). take at l ++ (ys ++ rest)) (Post-is at e l (omega (arith, is)) ∙ ap (λ (k : ℕ). drop k l) is)
    ∙ sym (append_assoc (take at l) ys (drop (at + length ys) l))
    ∙ sym (sets-eq ys l at (omega (arith, is, fits)))

-- ---- bytes compared

pub same_true : (x y : List ℕ) → same_bytes x y ≡ true → x ≡ y
unfolding same_bytes
same_true x y = (bytes_eq-Decides x y).0

pub same_eq : {x y : List ℕ} → x ≡ y → same_bytes x y ≡ true
unfolding same_bytes
same_eq {x} {y} = (bytes_eq-Decides x y).1

pub same_append :
    (x x' y y' : List ℕ) → length x ≡ length y → same_bytes (x ++ x') (y ++ y') ≡ (same_bytes x y && same_bytes x' y')
unfolding same_bytes
same_append [] x' [] y' e = refl
same_append [] x' (b ∷ y) y' e = absurd (omega arith)
same_append (a ∷ x) x' [] y' e = absurd (omega arith)
same_append (a ∷ x) x' (b ∷ y) y' e =
    rw (same_append x x' y y' (omega arith)) (sym (and_assoc (eqb a b) (same_bytes x y) (same_bytes x' y')))

-- lists of other lengths
pub same_sizes : (x y : List ℕ) → (length x ≡ length y → ⊥) → same_bytes x y ≡ false
same_sizes x y h = no_test _ (λ e. h (ap length (same_true x y e)))

-- bytes are a number's where the number in them is that one
pub same_number :
    (size : ℕ) (bytes : List ℕ) (x : ℕ) → length bytes ≡ size → AreBytes bytes → x < byte_values ^ size →
    same_bytes bytes (bytes_of size x) ≡ eqb (number_of bytes) x
same_number size bytes x e are small =
    same_tests _ _
    (λ t. eq-eqb _ _ (ap number_of (same_true _ _ t) ∙ number_bytes size x small))
    (λ t. same_eq (sym (bytes_sized size bytes e are) ∙ ap (bytes_of size) (eqb-true _ _ t)))

-- ---- what is left to write and to compare

-- a byte written, of a number in the bytes from a place on
pub bytes_more :
    (out : List ℕ) (size i rest : ℕ) → i < size →
    sets (set out i (rest % byte_values)) (i + 1) (bytes_of (size - (i + 1)) (rest / byte_values)) ≡ sets out i (bytes_of (size - i) rest)
unfolding bytes_of
bytes_more out size i rest h =
    let left : size - i ≡ suc (size - (i + 1)) = omega arith in
    rw (left, add-one)

-- a number written behind the first i of these
pub numbers_more :
    (out : List ℕ) (at : ℕ) (xs : List ℕ) (i : ℕ) → i < length xs →
    sets (sets out at (numbers_bytes (take i xs))) (at + number_size * i) (bytes_of number_size (get_or xs i 0)) ≡ sets out at (numbers_bytes (take (i + 1) xs))
unfolding numbers_bytes
numbers_more out at xs i h =
    let written : length (numbers_bytes (take i xs)) ≡ number_size * i = length_numbers (take i xs) ∙ ap (λ n. number_size * n) (length-take-le i xs (omega arith)) in
    rw (add-one i, take-suc xs i 0 h, numbers_append, append-nil, sets_append, written)

-- whether the bytes from number i on are those of these numbers
module _ (bytes : List ℕ) where
  abbrev pub numbers_left : List ℕ → ℕ → Bool
  numbers_left xs i = same_bytes (drop (number_size * i) bytes) (numbers_bytes (drop i xs))

  pub numbers_left_lem :
      (xs : List ℕ) (i : ℕ) → i < length xs → number_size * length xs ≤ length bytes → AreBytes bytes → get_or xs i 0 < byte_values ^ number_size →
      numbers_left xs i ≡ (eqb (number_in number_size (number_size * i) bytes) (get_or xs i 0) && numbers_left xs (i + 1))
  unfolding numbers_bytes
  numbers_left_lem xs i h room are small =
      let here : ℕ = number_size * i in
      let part : List ℕ = take number_size (drop here bytes) in
      let next : here + number_size ≡ number_size * suc i = omega arith in
      let sized : length part ≡ number_size = length-take-le number_size (drop here bytes) (omega (arith, length-drop here bytes)) in
      let rest : List ℕ = drop (number_size * suc i) bytes in
      let split : drop here bytes ≡ part ++ rest =
      sym (take-append-drop number_size (drop here bytes)) ∙ ap (λ (l : List ℕ). part ++ l) (drop-drop number_size here bytes ∙ ap (λ (n : ℕ). drop n bytes) next) in
      rw (add-one i, drop-cons xs i 0 h)
      (ap (λ (l : List ℕ). same_bytes l (bytes_of number_size (get_or xs i 0) ++ numbers_bytes (drop (suc i) xs))) split
      ∙ same_append part rest (bytes_of number_size (get_or xs i 0)) _ (sized ∙ sym (length_bytes number_size (get_or xs i 0)))
      ∙ ap (λ b. b && numbers_left xs (suc i)) (same_number number_size part (get_or xs i 0) sized (bytes_part bytes are number_size here) small))

  pub no_numbers_left : (xs : List ℕ) (i : ℕ) → length bytes ≤ number_size * i → length xs ≤ i → numbers_left xs i ≡ true
  unfolding same_bytes numbers_bytes
  no_numbers_left xs i none h = rw (drop_of_length-le bytes none, drop_of_length-le xs h)

-- One step of the search: the nodes that a link joins to a set, gathered row by row, and why the nodes reached last are enough.
-- Assumes nothing.
use mathlib.Core.Path.{◌≡◌, refl, sym, ap, ap₂, ◌∙◌}
use mathlib.Core.Bool.{Bool, true, false, not, ◌&&◌, ◌||◌, or-false, and_comm}
use mathlib.Core.Logic.{⊎_elim}
use mathlib.Core.List.{List}
use Prim.Native.Nat.{ℕ, ◌+◌, ◌-◌, ◌^◌, ◌≤◌, ◌<◌}
use native.Mathlib.Nat.{le_refl, le_step}
use native.Mathlib.Decide.{le_ind}
use native.Mathlib.Numerals.{add-one}
use native.Mathlib.Omega.{arith}
use lib.Bits.{bit_and, bit_or, or_lt, or_add_and, and_comm as bitAnd-comm, and_le_l}
use lib.ListN.{get_or}
use Rattle.network.specs.Graph.{has, set_of, any, linked}
use Rattle.network.specs.Distance.{spread}
use Rattle.network.proofs.Sets.{two, never, or_right, any_intro, any_cong, has_set_of, set_of_lt, set_ext, has_or}
use Rattle.network.proofs.Lowest.{has_minus}

-- no number from m on has f
any_stop : (f : ℕ → Bool) {m n : ℕ} → m ≤ n → ((i : ℕ) → m ≤ i → i < n → f i ≡ false) → any m f ≡ any n f
unfolding any
any_stop f {m} {n} l =
    le_ind (λ (n : ℕ). ((i : ℕ) → m ≤ i → i < n → f i ≡ false) → any m f ≡ any n f) (λ h. refl)
    (λ k q ih h. ih (λ i a b. h i a (le_step b)) ∙ sym (or-false (any k f)) ∙ ap (λ (b : Bool). any k f || b) (sym (h k q (le_refl _))))
    n l

-- a link joins node j to a node of s below m
unfoldable pub touches : List ℕ → ℕ → ℕ → ℕ → Bool
touches rows s m j = any m (λ i. has s i && linked rows i j)

-- node j is in s, or a link joins it to a node of s below i
unfoldable pub near : List ℕ → ℕ → ℕ → ℕ → Bool
near rows s i j = has s j || any i (λ k. has s k && linked rows k j)

module _ (rows : List ℕ) (s : ℕ) where
  -- no node of s lies between: the rest of the walk finds nothing
  pub touches_stop : {m n : ℕ} (j : ℕ) → m ≤ n → ((i : ℕ) → m ≤ i → i < n → has s i ≡ false) → touches rows s m j ≡ touches rows s n j
  unfolding touches
  touches_stop j l h = any_stop (λ i. has s i && linked rows i j) l (λ i a b. ap (λ (x : Bool). x && linked rows i j) (h i a b))

  -- the row of the next node is gathered by a bitwise or
  pub touches_or : (found : ℕ) {m t : ℕ} → ((j : ℕ) → has found j ≡ touches rows s m j) → m ≤ t → ((i : ℕ) → m ≤ i → i < t → has s i ≡ false) → has s t ≡ true
      → (j : ℕ) → has (bit_or found (get_or rows t 0)) j ≡ touches rows s (t + 1) j
  unfolding touches any linked
  touches_or found {m} {t} f l h e j =
      has_or found (get_or rows t 0) j
      ∙ ap₂ ◌||◌ (f j ∙ touches_stop j l h) (ap (λ (x : Bool). x && linked rows t j) (sym e))
      ∙ ap (λ (k : ℕ). touches rows s k j) (sym (add-one t))

  pub touches_is : (n found : ℕ) → found < 2 ^ n → ((j : ℕ) → has found j ≡ touches rows s n j) → found ≡ set_of n (touches rows s n)
  touches_is n found l h = set_ext n l (set_of_lt n (touches rows s n)) (λ j lj. h j ∙ sym (has_set_of n (touches rows s n) j lj))

  pub has_spread : (n j : ℕ) → j < n → has (spread rows n s) j ≡ near rows s n j
  unfolding spread near
  has_spread n j h = has_set_of n (λ j. has s j || any n (λ i. has s i && linked rows i j)) j h

  pub spread_lt : (n : ℕ) → spread rows n s < 2 ^ n
  unfolding spread
  spread_lt n = set_of_lt n (λ j. has s j || any n (λ i. has s i && linked rows i j))

or_same : (a : Bool) {x y : Bool} → (a ≡ false → x ≡ y) → a || x ≡ a || y
or_same true f = refl
or_same false f = f refl

and_same : {x y : Bool} (b : Bool) → (b ≡ true → x ≡ y) → x && b ≡ y && b
and_same {x} {y} true f = ap (λ (z : Bool). z && true) (f refl)
and_same {x} {y} false f = and_comm x false ∙ and_comm false y

-- what a union adds to a set
has_added : (s t j : ℕ) → has (bit_or s t - s) j ≡ has t j && not (has s j)
has_added s t j =
    let e : bit_or s t - s ≡ t - bit_and t s = omega (arith, or_add_and s t, bitAnd-comm s t, and_le_l t s) in
    ap (λ (x : ℕ). has x j) e ∙ has_minus t s j

-- of the nodes that a link joins to one not reached, `latest` has those reached
pub record Latest (rows : List ℕ) (n reached latest : ℕ) : Type 0 where
  pub small : latest < 2 ^ n
  pub holds : (i j : ℕ) → i < n → j < n → linked rows i j ≡ true → has reached j ≡ false → has latest i ≡ has reached i

module _ (rows : List ℕ) (n : ℕ) {reached latest found : ℕ} (small : reached < 2 ^ n) (x : Latest rows n reached latest) (is : found ≡ set_of n (touches rows latest n)) where
  -- so its neighbours are all that a step adds
  pub latest_spread : bit_or reached found ≡ spread rows n reached
  unfolding touches near
  latest_spread =
      set_ext n (or_lt n reached found small (rw is (set_of_lt n (touches rows latest n)))) (spread_lt rows reached n)
      (λ j h.
      has_or reached found j
      ∙ or_same (has reached j)
      (λ u. ap (λ (s : ℕ). has s j) is ∙ has_set_of n (touches rows latest n) j h ∙ any_cong n (λ i l. and_same (linked rows i j) (λ e. x.holds i j l h e u)))
      ∙ sym (has_spread rows reached n j h))

  -- and the nodes that it adds are the latest after it
  pub latest_next : Latest rows n (bit_or reached found) (bit_or reached found - reached)
  unfolding near
  latest_next =
      let lt : bit_or reached found < 2 ^ n = rw latest_spread (spread_lt rows reached n) in
      record { small = omega arith; holds = holds }
    where
      grown : (i j : ℕ) → i < n → j < n → linked rows i j ≡ true → has reached i ≡ true → has (bit_or reached found) j ≡ true
      grown i j hi hj l e =
          ap (λ (s : ℕ). has s j) latest_spread
          ∙ has_spread rows reached n j hj
          ∙ or_right (has reached j) (any n (λ i. has reached i && linked rows i j)) (any_intro n (λ i. has reached i && linked rows i j) i hi (ap₂ ◌&&◌ e l))

      holds : (i j : ℕ) → i < n → j < n → linked rows i j ≡ true → has (bit_or reached found) j ≡ false → has (bit_or reached found - reached) i ≡ has (bit_or reached found) i
      holds i j hi hj l u =
          ⊎_elim (λ e. never (grown i j hi hj l e) u)
          (λ e.
          has_added reached found i
          ∙ ap (λ (b : Bool). has found i && not b) e
          ∙ and_comm (has found i) true
          ∙ ap (λ (b : Bool). b || has found i) (sym e)
          ∙ sym (has_or reached found i))
          (two (has reached i))

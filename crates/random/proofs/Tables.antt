-- Lists by their places: `tabulate`, and a list that is filled or changed from the front, one place after the other.
-- Assumes nothing.
use Rattle.std.proofs.Common.{◌≡◌, ℕ, zero, suc, ◌+◌, ◌<◌, ◌≤◌, List, [], ◌∷◌, ◌++◌, length, get_or, set, sym, refl, ap, ◌∙◌, le_of_suc-le-suc, add-one, arith, length-set, get_or-set_other, get_or-set_same, ext_get_or, below_more}
use Rattle.random.specs.Table.{tabulate}

pub length_tabulate : {A : Type 0} (n : ℕ) (f : ℕ → A) → length (tabulate n f) ≡ n
unfolding tabulate
length_tabulate zero f = refl
length_tabulate (suc n) f = ap suc (length_tabulate n (λ (i : ℕ). f (suc i)))

pub get_d_tabulate : {A : Type 0} (n : ℕ) (f : ℕ → A) (i : ℕ) (d : A) → i < n → get_or (tabulate n f) i d ≡ f i
unfolding tabulate
get_d_tabulate zero f i d h = absurd (omega arith)
get_d_tabulate (suc n) f zero d h = refl
get_d_tabulate (suc n) f (suc i) d h = get_d_tabulate n (λ (j : ℕ). f (suc j)) i d (le_of_suc-le-suc h)

-- a list of length n whose element i is f i
pub is_tabulate : {A : Type 0} (n : ℕ) (f : ℕ → A) (d : A) (l : List A) → length l ≡ n → ((i : ℕ) → i < n → get_or l i d ≡ f i) → l ≡ tabulate n f
is_tabulate n f d l e h =
    ext_get_or d l (tabulate n f) (e ∙ sym (length_tabulate n f)) (λ i b. let i<n : i < n = omega (arith, e) in h i i<n ∙ sym (get_d_tabulate n f i d i<n))

-- the same rule at each place below n
pub tabulate_cong : {A : Type 0} (n : ℕ) (f g : ℕ → A) → ((i : ℕ) → i < n → f i ≡ g i) → tabulate n f ≡ tabulate n g
unfolding tabulate
tabulate_cong zero f g h = refl
tabulate_cong (suc n) f g h = λ k. h zero (omega arith) k ∷ tabulate_cong n (λ i. f (suc i)) (λ i. g (suc i)) (λ i b. h (suc i) (omega arith)) k

-- one place more, at the end
pub tabulate_snoc : {A : Type 0} (n : ℕ) (f : ℕ → A) → tabulate (n + 1) f ≡ tabulate n f ++ (f n ∷ [])
unfolding tabulate
tabulate_snoc n f = ap (λ (k : ℕ). tabulate k f) (add-one n) ∙ go n f
  where
    go : {A : Type 0} (n : ℕ) (f : ℕ → A) → tabulate (suc n) f ≡ tabulate n f ++ (f n ∷ [])
    go zero f = refl
    go (suc n) f = ap (λ (l : List _). f zero ∷ l) (go n (λ (i : ℕ). f (suc i)))

-- a list is the list of its elements
pub by_places : {A : Type 0} (n : ℕ) (d : A) (l : List A) → length l ≡ n → l ≡ tabulate n (λ (i : ℕ). get_or l i d)
by_places n d l e = is_tabulate n (λ (i : ℕ). get_or l i d) d l e (λ i h. refl)

-- a list of length n is being filled with f from the front, and i places are done
pub record Filled (f : ℕ → ℕ) (n : ℕ) (l : List ℕ) (i : ℕ) : Type 0 where
  pub within : i ≤ n
  pub size : length l ≡ n
  pub places : (k : ℕ) → k < i → get_or l k 0 ≡ f k

pub filled_none : (f : ℕ → ℕ) (n : ℕ) (l : List ℕ) → length l ≡ n → Filled f n l 0
filled_none f n l e = record { within = omega arith; size = e; places = λ k h. absurd (omega arith) }

pub filled_more : {f : ℕ → ℕ} {n : ℕ} {l : List ℕ} {i : ℕ} (v : ℕ) → Filled f n l i → i < n → v ≡ f i → Filled f n (set l i v) (i + 1)
filled_more {f} {n} {l} {i} v d h e =
    record {
      within = omega arith;
      size = length-set l i v ∙ d.size;
      places = below_more _ i (λ k b. get_or-set_other l i k v 0 (λ p. omega (arith, p)) ∙ d.places k b) (get_or-set_same l i v 0 (omega (arith, d.size)) ∙ e);
    }

pub filled_all : {f : ℕ → ℕ} {n : ℕ} {l : List ℕ} {i : ℕ} → Filled f n l i → n ≤ i → l ≡ tabulate n f
filled_all {f} {n} {l} d h = is_tabulate n f 0 l d.size (λ k b. d.places k (omega arith))

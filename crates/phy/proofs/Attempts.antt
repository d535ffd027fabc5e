-- Attempts in order. Assumes nothing.
use Prim.Native.Nat.{ℕ, zero, suc, ◌+◌, ◌^◌, ◌≤◌, ◌<◌}
use mathlib.Core.Path.{◌≡◌, refl, sym, ap, ap₂, ◌∙◌}
use mathlib.Core.Bool.{Bool, true, false, cond, ◌&&◌, and-false}
use mathlib.Core.List.{List, [], ◌∷◌, ◌++◌, append-nil}
use mathlib.Core.Logic.{⊎_elim}
use native.Mathlib.Nat.{eq-or-lt_of_le}
use native.Mathlib.Numerals.{add-one}
use native.Mathlib.Omega.{arith}
use lib.Ieee.{Float}
use lib.ListN.{get_or}
use lib.Bits.{bit_and}
use Rattle.network.specs.Graph.{has, linked}
use Rattle.network.proofs.Sets.{has_out}
use Rattle.phy.proofs.Masks.{has_and}
use Rattle.random.specs.declared.draws.Stream.{Stream}
use Rattle.phy.specs.declared.slot.Tried.{Tried}
use Rattle.phy.specs.Slot.{Tries, attempt, attempt_all, among, receivers}
use Rattle.phy.specs.View.{tries_of, TriedOn}

pub attempt_all_append : (h : ℕ → Bool) (t : Tries) (xs ys : List ℕ) → attempt_all h t (xs ++ ys) ≡ attempt_all h (attempt_all h t xs) ys
unfolding attempt_all
attempt_all_append h t [] ys = refl
attempt_all_append h t (x ∷ xs) ys = attempt_all_append h (attempt h t x) xs ys

pub tried_none : (rate : Float) (t : Tried) (w : Stream) → TriedOn rate 0 [] t w t w
unfolding attempt_all
tried_none rate t w = record { attempts = omega arith; successes = omega arith; tried = λ heard r. refl; source = λ heard r. r }

-- first the receivers js, then ks
pub tried_then : {rate : Float} {i k : ℕ} {js ks : List ℕ} {t u v : Tried} {w x y : Stream} → TriedOn rate i js t w u x → TriedOn rate k ks u x v y → TriedOn rate (i + k) (js ++ ks) t w v y
tried_then {rate} {js = js} {ks = ks} {t = t} a b =
    record {
      attempts = omega (arith, a.attempts, b.attempts);
      successes = omega (arith, a.successes, b.successes);
      tried = λ heard r.
          b.tried heard (a.source heard r) ∙ ap (λ (x : Tries). attempt_all heard x ks) (a.tried heard r) ∙ sym (attempt_all_append heard (tries_of t) js ks);
      source = λ heard r. b.source heard (a.source heard r);
    }

-- the same attempts under another name, or a looser bound
pub tried_as : {rate : Float} {i k : ℕ} {js ks : List ℕ} {t u : Tried} {w x : Stream} → i ≤ k → js ≡ ks → TriedOn rate i js t w u x → TriedOn rate k ks t w u x
tried_as {rate} {i} {k} {js} {ks} {t} {u} h e a =
    record {
      attempts = omega (arith, a.attempts);
      successes = omega (arith, a.successes);
      tried = λ heard r. a.tried heard r ∙ ap (attempt_all heard (tries_of t)) e;
      source = a.source;
    }

-- one number more
pub among_more : (n : ℕ) (f : ℕ → Bool) (b : Bool) → f n ≡ b → among n f ++ cond b (n ∷ []) [] ≡ among (n + 1) f
unfolding among
among_more n f b e = ap (λ (x : Bool). among n f ++ cond x (n ∷ []) []) (sym e) ∙ ap (λ (k : ℕ). among k f) (sym (add-one n))

pub among_cong : (n : ℕ) (f g : ℕ → Bool) → ((k : ℕ) → k < n → f k ≡ g k) → among n f ≡ among n g
unfolding among
among_cong zero f g h = refl
among_cong (suc n) f g h = ap₂ (λ (l : List ℕ) (b : Bool). l ++ cond b (n ∷ []) []) (among_cong n f g (λ k b. h k (omega arith))) (h n (omega arith))

-- where no number from m to below t is so
pub among_skip : (m t : ℕ) (f : ℕ → Bool) → m ≤ t → ((i : ℕ) → m ≤ i → i < t → f i ≡ false) → among t f ≡ among m f
unfolding among
among_skip m zero f l h = let e : 0 ≡ m = omega (arith, l) in ap (λ (x : ℕ). among x f) e
among_skip m (suc t) f l h =
    ⊎_elim (λ e. ap (λ (x : ℕ). among x f) (sym e))
    (λ b.
    ap (λ (x : Bool). among t f ++ cond x (t ∷ []) []) (h t (omega (arith, b)) (omega arith))
    ∙ append-nil (among t f)
    ∙ among_skip m t f (omega (arith, b)) (λ i u v. h i u (omega (arith, v))))
    (eq-or-lt_of_le l)

pub receivers_more : (rows : List ℕ) (floods listens : ℕ → Bool) (n m : ℕ) (b : Bool) → floods m ≡ b
    → receivers rows floods listens n m ++ cond b (among n (λ (j : ℕ). linked rows m j && listens j)) [] ≡ receivers rows floods listens n (m + 1)
unfolding receivers
receivers_more rows floods listens n m b e =
    ap (λ (x : Bool). receivers rows floods listens n m ++ cond x (among n (λ (j : ℕ). linked rows m j && listens j)) []) (sym e)
    ∙ ap (λ (k : ℕ). receivers rows floods listens n k) (sym (add-one m))

-- where nobody from m to below t floods
pub receivers_skip : (rows : List ℕ) (floods listens : ℕ → Bool) (n m t : ℕ) → m ≤ t → ((i : ℕ) → m ≤ i → i < t → floods i ≡ false)
    → receivers rows floods listens n t ≡ receivers rows floods listens n m
unfolding receivers
receivers_skip rows floods listens n m zero l h = let e : 0 ≡ m = omega (arith, l) in ap (receivers rows floods listens n) e
receivers_skip rows floods listens n m (suc t) l h =
    ⊎_elim (λ e. ap (receivers rows floods listens n) (sym e))
    (λ b.
    ap (λ (x : Bool). receivers rows floods listens n t ++ cond x (among n (λ (j : ℕ). linked rows t j && listens j)) []) (h t (omega (arith, b)) (omega arith))
    ∙ append-nil (receivers rows floods listens n t)
    ∙ receivers_skip rows floods listens n m t (omega (arith, b)) (λ i u v. h i u (omega (arith, v))))
    (eq-or-lt_of_le l)

-- where nobody listens
pub receivers_none : (rows : List ℕ) (floods listens : ℕ → Bool) (n m : ℕ) → ((j : ℕ) → listens j ≡ false) → receivers rows floods listens n m ≡ []
unfolding receivers among
receivers_none rows floods listens n zero h = refl
receivers_none rows floods listens n (suc m) h =
    ap₂ ◌++◌ (receivers_none rows floods listens n m h)
    (ap (λ (l : List ℕ). cond (floods m) l []) (among_skip 0 n _ (omega arith) (λ j u v. ap (λ (b : Bool). linked rows m j && b) (h j) ∙ and-false (linked rows m j))) ∙ either (floods m))
  where
    none : List ℕ
    none = []

    either : (b : Bool) → cond b none none ≡ none
    either true = refl
    either false = refl

-- who floods and who listens counts below n alone
pub receivers_cong : (rows : List ℕ) (f f' l l' : ℕ → Bool) (n m : ℕ) → m ≤ n → ((j : ℕ) → j < n → f j ≡ f' j) → ((j : ℕ) → j < n → l j ≡ l' j)
    → receivers rows f l n m ≡ receivers rows f' l' n m
unfolding receivers
receivers_cong rows f f' l l' n zero h p q = refl
receivers_cong rows f f' l l' n (suc m) h p q =
    λ i. receivers_cong rows f f' l l' n m (omega arith) p q i
    ++ cond (p m (omega arith) i) (among_cong n (λ (j : ℕ). linked rows m j && l j) (λ (j : ℕ). linked rows m j && l' j) (λ j b. ap (λ (x : Bool). linked rows m j && x) (q j b)) i) []

-- a flooding node's receivers, as the code's set has them
pub receivers_of_lem : (rows : List ℕ) (i n w listening : ℕ) → n ≤ w → listening < 2 ^ n
    → among w (has (bit_and (get_or rows i 0) listening)) ≡ among n (λ (j : ℕ). linked rows i j && has listening j)
unfolding linked
receivers_of_lem rows i n w listening h small =
    let s = bit_and (get_or rows i 0) listening in
    among_skip n w (has s) h (λ k b u. has_and (get_or rows i 0) listening k ∙ ap (λ (x : Bool). has (get_or rows i 0) k && x) (has_out small k b) ∙ and-false (has (get_or rows i 0) k))
    ∙ among_cong n (has s) (λ (j : ℕ). has (get_or rows i 0) j && has listening j) (λ k b. has_and (get_or rows i 0) listening k)

-- Sums over rounds and nodes. Assumes nothing.
use Prim.Native.Nat.{ℕ, zero, suc, ◌+◌, ◌*◌, ◌≤◌, ◌<◌}
use mathlib.Core.List.{List}
use mathlib.Core.Path.{◌≡◌, refl, sym, ap, ◌∙◌}
use native.Mathlib.Nat.{add-zero, add-suc}
use native.Mathlib.Omega.{arith}
use lib.ListN.{replicate, get_or-replicate}
use Rattle.phy.specs.declared.node.Node.{Node}
use Rattle.phy.specs.Node.{new}
use Rattle.phy.specs.Slot.{at, sum_of}
use Rattle.rules.specs.ExactRounds.{sum}

-- where none is above m
pub sum_most : (n : ℕ) (f : ℕ → ℕ) (m : ℕ) → ((i : ℕ) → f i ≤ m) → sum n f ≤ n * m
unfolding sum
sum_most zero f m h = omega arith
sum_most (suc n) f m h = omega (arith, sum_most n f m h, h n)

-- the first a, and the others
pub sum_split : (a b : ℕ) (f : ℕ → ℕ) → sum (a + b) f ≡ sum a f + sum b (λ (i : ℕ). f (a + i))
unfolding sum
sum_split a zero f = ap (λ (k : ℕ). sum k f) (add-zero a) ∙ sym (add-zero (sum a f))
sum_split a (suc b) f = ap (λ (k : ℕ). sum k f) (add-suc a b) ∙ omega (arith, sum_split a b f)

-- a count of the nodes, where each grows by w
pub sum_grown : (f : Node → ℕ) (before after : List Node) (n : ℕ) (w : ℕ → ℕ) → ((j : ℕ) → j < n → f (at after j) ≡ f (at before j) + w j)
    → sum_of f after n ≡ sum_of f before n + sum n w
unfolding sum_of sum
sum_grown f before after zero w h = refl
sum_grown f before after (suc n) w h = omega (arith, sum_grown f before after n w (λ j l. h j (omega arith)), h n (omega arith))

-- before the first round
pub sum_new : (f : Node → ℕ) (n m : ℕ) → f new ≡ 0 → m ≤ n → sum_of f (replicate n new) m ≡ 0
unfolding sum_of
sum_new f n zero e h = refl
sum_new f n (suc m) e h = omega (arith, sum_new f n m e (omega arith), ap f (get_or-replicate n m new new h), e)

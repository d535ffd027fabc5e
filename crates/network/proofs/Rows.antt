-- Rows that a loop copies, one place a turn.
-- Assumes nothing.
use mathlib.Core.Path.{◌≡◌, sym, ap, ap₂, ◌∙◌, subst}
use mathlib.Core.List.{List, [], ◌∷◌, ◌++◌, append_assoc}
use Prim.Native.Nat.{ℕ, suc, ◌+◌, ◌-◌, ◌≤◌, ◌<◌}
use native.Mathlib.Nat.{le_of_lt, le_of_eq, le_refl}
use native.Mathlib.Omega.{arith}
use native.Mathlib.Numerals.{add-one}
use lib.ListN.{length, get_or, set, take, drop, replicate, length-append, get_or-append}
use lib.Seq.{drop-cons, set_at, length-take-le, take-suc, take_at, take_all, get_or-take}
use Rattle.std.proofs.lemmas.List.{drop-replicate}
use Rattle.network.specs.Graph.{widened}
use Rattle.config.specs.Limits.{max_nodes}

-- a loop that copies the first rows over a list
pub rows_copied : (rows d : List ℕ) (i : ℕ) → i < length rows → i < length d → set (take i rows ++ drop i d) i (get_or rows i 0) ≡ take (i + 1) rows ++ drop (i + 1) d
rows_copied rows d i h l =
    ap (λ (r : List ℕ). set (take i rows ++ r) i (get_or rows i 0)) (drop-cons d i 0 l)
    ∙ set_at (take i rows) (get_or d i 0) (drop (suc i) d) (get_or rows i 0) i (length-take-le i rows (le_of_lt h))
    ∙ sym (append_assoc (take i rows) (get_or rows i 0 ∷ []) (drop (suc i) d))
    ∙ ap (λ (r : List ℕ). r ++ drop (suc i) d) (sym (take-suc rows i 0 h))
    ∙ ap (λ (k : ℕ). take k rows ++ drop k d) (sym (add-one i))

-- and over empty ones
pub widened_more : (rows : List ℕ) (i : ℕ) → i < length rows → i < max_nodes → set (widened rows i) i (get_or rows i 0) ≡ widened rows (i + 1)
unfolding widened
widened_more rows i h m =
    ap (λ (r : List ℕ). set (take i rows ++ r) i (get_or rows i 0)) (sym (drop-replicate i max_nodes 0))
    ∙ rows_copied rows (replicate max_nodes 0) i h m
    ∙ ap (λ (r : List ℕ). take (i + 1) rows ++ r) (drop-replicate (i + 1) max_nodes 0)

pub get_d_widened : (rows : List ℕ) (n : ℕ) → n ≤ length rows → (i : ℕ) → i < n → get_or (widened rows n) i 0 ≡ get_or rows i 0
unfolding widened
get_d_widened rows n h i l =
    get_or-append (take n rows) (replicate (max_nodes - n) 0) 0 i (subst (λ (k : ℕ). i < k) (sym (length-take-le n rows h)) l)
    ∙ get_or-take n rows i 0 l

-- the first n rows alone, as all of a list
pub widened_take : (rows : List ℕ) (n : ℕ) → n ≤ length rows → widened (take n rows) (length (take n rows)) ≡ widened rows n
unfolding widened
widened_take rows n h =
    ap₂ (λ (r : List ℕ) (k : ℕ). r ++ replicate (max_nodes - k) 0) (take_all (length (take n rows)) (take n rows) (le_refl _)) (length-take-le n rows h)

pub length_widened : (rows : List ℕ) (n : ℕ) → n ≤ length rows → n ≤ length (widened rows n)
unfolding widened
length_widened rows n h = subst (λ (k : ℕ). n ≤ k) (sym (length-append (take n rows) (replicate (max_nodes - n) 0))) (omega (arith, length-take-le n rows h))

pub take_widened : (rows : List ℕ) (n : ℕ) → length rows ≡ n → take n (widened rows n) ≡ rows
unfolding widened
take_widened rows n e =
    take_at (take n rows) (replicate (max_nodes - n) 0) n (length-take-le n rows (le_of_eq (sym e))) ∙ take_all n rows (le_of_eq e)

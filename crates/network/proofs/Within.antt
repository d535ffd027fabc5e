-- The questions as facts about numbers.
-- Assumes nothing.
use mathlib.Core.Path.{◌≡◌, refl, ap₂}
use mathlib.Core.Bool.{Bool, true, false, not, ◌&&◌, ◌||◌}
use mathlib.Core.List.{List, [], ◌∷◌, ◌++◌}
use Rattle.std.specs.Prelude.{Some, None}
use Prim.Native.Nat.{ℕ, ◌≤◌}
use native.Mathlib.Omega.{arith}
use borrow.Author.Tests.{leb-true, le-leb}
use lib.Dec.{eqb, leb}
use Rattle.config.specs.Limits.{min_nodes, max_nodes}
use Rattle.config.specs.declared.refusal.Refusal.{Refusal}
use Rattle.network.specs.Questions.{within, first_no, nodes_of, question1, question2, question3, topology_questions}
use Rattle.network.proofs.Sets.{and_both}

pub within_both : (lo hi x : ℕ) → within lo hi x ≡ true → (lo ≤ x) × (x ≤ hi)
within_both lo hi x e = let r = and_both (leb lo x) (leb x hi) e in (leb-true lo x r.0, leb-true x hi r.1)

pub within_true : (lo hi x : ℕ) → lo ≤ x → x ≤ hi → within lo hi x ≡ true
within_true lo hi x p q = ap₂ ◌&&◌ (le-leb lo x p) (le-leb x hi q)

-- ---- questions in order: those that come first decide, and the others where all of them pass
pub first_no_lem : (qs more : List (Bool × Refusal)) (k : Refusal) → first_no qs ≡ Some k → first_no (qs ++ more) ≡ Some k
first_no_lem [] more k e = let z : ◌≡◌ {A = ℕ} 0 1 = cc in absurd (omega arith)
first_no_lem (q ∷ qs) more k e = go q.0 refl (first_no_lem qs more k)
  where
    go : (b : Bool) → q.0 ≡ b → (first_no qs ≡ Some k → first_no (qs ++ more) ≡ Some k) → first_no ((q ∷ qs) ++ more) ≡ Some k
    go true p on = rw p (on (rw p at e))
    go false p on = rw p (rw p at e)

pub first_yes : (q : Bool × Refusal) (qs : List (Bool × Refusal)) → first_no (q ∷ qs) ≡ None → (q.0 ≡ true) × (first_no qs ≡ None)
first_yes q qs e = go q.0 refl
  where
    go : (b : Bool) → q.0 ≡ b → (q.0 ≡ true) × (first_no qs ≡ None)
    go true p = (p, rw p at e)
    go false p = let f : Some q.1 ≡ None = rw p at e in let z : ◌≡◌ {A = ℕ} 0 1 = cc in absurd (omega arith)

pub all_yes : (qs more : List (Bool × Refusal)) → first_no qs ≡ None → first_no (qs ++ more) ≡ first_no more
all_yes [] more e = refl
all_yes (q ∷ qs) more e = let r = first_yes q qs e in rw r.0 (all_yes qs more r.1)

-- question 2 of the nodes
pub topology_nodes : (topology first second : ℕ) → first_no (topology_questions topology first second) ≡ None → within min_nodes max_nodes (nodes_of topology first second) ≡ true
topology_nodes topology first second e =
    let rest = (first_yes (question1 topology, Refusal.UnknownTopology) ((question2 topology first second, Refusal.NodeCount) ∷ (question3 topology second, Refusal.SecondNumber) ∷ []) e).1 in
    (and_both (not (eqb topology 4) || within 1 max_nodes first && within 1 max_nodes second) (within min_nodes max_nodes (nodes_of topology first second))
    (first_yes (question2 topology first second, Refusal.NodeCount) ((question3 topology second, Refusal.SecondNumber) ∷ []) rest).0).1

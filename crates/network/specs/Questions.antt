-- The questions that are put to a topology and to rows (rules 9.1 to 9.3).
use Rattle.std.specs.Prelude.{Bool, not, cond, ◌&&◌, ◌||◌, List, [], ◌∷◌, ℕ, ◌*◌, Option, Some, None, eqb, leb, length}
use Rattle.network.specs.Graph.{rows_right}
use Rattle.config.specs.Limits.{min_nodes, max_nodes, max_branching}
use Rattle.config.specs.declared.refusal.Refusal.{Refusal}

-- lo ≤ x ≤ hi
abbrev pub within : ℕ → ℕ → ℕ → Bool
within lo hi x = leb lo x && leb x hi

-- The refusal by the first question that is answered "no", of questions put in order, each with its refusal.
abbrev pub first_no : List (Bool × Refusal) → Option Refusal
first_no [] = None
first_no (q ∷ rest) = cond q.0 (first_no rest) (Some q.1)

-- The number of nodes: for a grid rows times columns.
abbrev pub nodes_of : ℕ → ℕ → ℕ → ℕ
nodes_of topology first second = cond (eqb topology 4) (first * second) first

-- Question 1: is it 1 full_mesh, 2 line, 3 star, 4 grid, 5 ring or 6 tree?
abbrev pub question1 : ℕ → Bool
question1 topology = within 1 6 topology

-- Question 2: 2 to 32 nodes (grid: rows and columns each 1 to 32, product 2 to 32)?
abbrev pub question2 : ℕ → ℕ → ℕ → Bool
question2 topology first second =
    (not (eqb topology 4) || within 1 max_nodes first && within 1 max_nodes second)
    && within min_nodes max_nodes (nodes_of topology first second)

-- Question 3: is the second number 0 to 32 for a tree and 0 for 1, 2, 3, 5?
abbrev pub question3 : ℕ → ℕ → Bool
question3 topology second = eqb topology 4 || leb second (cond (eqb topology 6) max_branching 0)

-- Question 4: one row for each node at least, and the first n of them right.
unfoldable pub question4 : List ℕ → ℕ → Bool
unfolding rows_right
question4 rows n = leb n (length rows) && rows_right rows n

-- The questions put to a topology by its number, 1 to 3, and to rows, 2 and 4.
abbrev pub topology_questions : ℕ → ℕ → ℕ → List (Bool × Refusal)
topology_questions topology first second =
    (question1 topology, Refusal.UnknownTopology)
    ∷ (question2 topology first second, Refusal.NodeCount)
    ∷ (question3 topology second, Refusal.SecondNumber)
    ∷ []

abbrev pub rows_questions : List ℕ → ℕ → List (Bool × Refusal)
rows_questions rows n = (within min_nodes max_nodes n, Refusal.NodeCount) ∷ (question4 rows n, Refusal.WrongRows) ∷ []

-- The rows of each topology (rule 3.2), and what the builders answer (rules 7.6, 9.2 and 9.3).
use Rattle.std.specs.Prelude.{Bool, not, cond, ◌&&◌, ◌||◌, List, [], ◌∷◌, ◌++◌, ℕ, ◌+◌, ◌*◌, ◌/◌, ◌%◌, Option, Some, None, Result, Ok, Err, eqb, leb, ltb, length, drop}
use Rattle.config.specs.Refusals.{unless}
use Rattle.config.specs.declared.refusal.Refusal.{Refusal}
use Rattle.random.specs.Table.{tabulate}
use Rattle.network.specs.Graph.{set_of, widened}
use Rattle.network.specs.Questions.{within, first_no, nodes_of, rows_questions, topology_questions}
use Rattle.network.specs.declared.topology.Topology.{Topology}
use Rattle.network.specs.declared.topology.Topology.TheVariants.{FullMesh, Line, Star, Grid, Ring, Tree}
use Rattle.network.specs.declared.graph.Graph.{Graph}

-- Two numbers that differ by 1.
abbrev pub beside : ℕ → ℕ → Bool
beside x y = eqb (x + 1) y || eqb (y + 1) x

-- i is the first and j the last of n nodes.
abbrev pub first_and_last : ℕ → ℕ → ℕ → Bool
first_and_last n i j = eqb i 0 && eqb (j + 1) n

-- j is i times b + k for a k in 1 to b.
abbrev pub child : ℕ → ℕ → ℕ → Bool
child b i j = within (i * b + 1) (i * b + b) j

-- Nodes i and j of the topology with n nodes are linked. A grid's number is its columns: node i stands in row i / c and column
-- i % c, and is linked to those beside it in its row and in its column. A ring is a line that closes above 2 nodes. A tree's number
-- is its branching factor.
abbrev pub linked_in : Topology → ℕ → ℕ → ℕ → Bool
linked_in FullMesh n i j = not (eqb i j)
linked_in Line n i j = beside i j
linked_in Star n i j = (eqb i 0 || eqb j 0) && not (eqb i j)
linked_in (Grid c) n i j = eqb (i / c) (j / c) && beside (i % c) (j % c) || eqb (i % c) (j % c) && beside (i / c) (j / c)
linked_in Ring n i j = beside i j || ltb 2 n && (first_and_last n i j || first_and_last n j i)
linked_in (Tree b) n i j = child b i j || child b j i

-- Row i of a topology: the set of the nodes that are linked to i.
unfoldable pub topology_row : Topology → ℕ → ℕ → ℕ
unfolding set_of
topology_row t n i = set_of n (linked_in t n i)

unfoldable pub topology_rows : Topology → ℕ → List ℕ
unfolding tabulate topology_row
topology_rows t n = tabulate n (topology_row t n)

-- The topology of a number that question 1 lets pass.
abbrev pub topology_of : ℕ → ℕ → Topology
topology_of topology second =
    cond (eqb topology 1) FullMesh
    (cond (eqb topology 2) Line
    (cond (eqb topology 3) Star
    (cond (eqb topology 4) (Grid second) (cond (eqb topology 5) Ring (Tree second)))))

-- Questions 1, 2, 3 and 10, for a slice of the given length.
abbrev pub builder_refusal : ℕ → ℕ → ℕ → ℕ → Option Refusal
builder_refusal topology first second len =
    first_no (topology_questions topology first second ++ ((leb (nodes_of topology first second) len, Refusal.ShortBuffers) ∷ []))

-- A slice whose first n places hold the topology's rows.
unfoldable pub with_rows : Topology → ℕ → List ℕ → List ℕ
unfolding topology_rows
with_rows t n out = topology_rows t n ++ drop n out

-- The answer and the slice's final contents, from the refusal or none.
abbrev pub answered : Topology → ℕ → List ℕ → Option Refusal → Result ℕ Refusal × List ℕ
answered t n out None = (Ok n, with_rows t n out)
answered t n out (Some r) = (Err r, out)

-- What `rows` gives back and leaves in the slice.
abbrev pub built_rows : ℕ → ℕ → ℕ → List ℕ → Result ℕ Refusal × List ℕ
built_rows topology first second out =
    answered (topology_of topology second) (nodes_of topology first second) out
    (builder_refusal topology first second (length out))

-- The graph of n nodes with these rows, as a run takes them.
abbrev pub graph_of : List ℕ → ℕ → Graph
graph_of rows n = record { nodes = n; rows = widened rows n }

-- that of a topology
abbrev pub graph_as : Topology → ℕ → Graph
graph_as t n = graph_of (topology_rows t n) n

-- What `build_graph` gives back.
abbrev pub built_graph : ℕ → ℕ → ℕ → Result Graph Refusal
built_graph topology first second =
    unless (first_no (topology_questions topology first second)) (graph_as (topology_of topology second) (nodes_of topology first second))

-- What `checked_graph` gives back: questions 2 and 4, then the first n rows.
abbrev pub checked_graph : List ℕ → ℕ → Result Graph Refusal
checked_graph rows n = unless (first_no (rows_questions rows n)) (graph_of rows n)

-- What the inner functions of the builders promise and need, beside the rules themselves (3.2, 9.2).
use Rattle.std.specs.Prelude.{Bool, ◌&&◌, ◌||◌, [], ◌∷◌, ℕ, ◌+◌, ◌%◌, ◌≤◌, ◌<◌, Result, eqb, leb, ltb}
use Rattle.config.specs.Limits.{min_nodes, max_nodes, max_branching}
use Rattle.config.specs.Refusals.{unless}
use Rattle.config.specs.declared.refusal.Refusal.{Refusal}
use Rattle.network.specs.Questions.{within, first_no}
use Rattle.network.specs.Topology.{graph_as}
use Rattle.network.specs.declared.topology.Topology.{Topology}
use Rattle.network.specs.declared.topology.Topology.TheVariants.{FullMesh, Line, Star, Grid, Ring, Tree}
use Rattle.network.specs.declared.graph.Graph.{Graph}

-- What a builder gives after question 1, where the second number may be at most `most`.
abbrev pub asked_graph : Topology → ℕ → ℕ → ℕ → Result Graph Refusal
asked_graph t n second most =
    unless (first_no ((within min_nodes max_nodes n, Refusal.NodeCount) ∷ (leb second most, Refusal.SecondNumber) ∷ [])) (graph_as t n)

-- In rows of c, j is the node to the right of i or the one below it: a grid is built from these links, each in both directions.
abbrev pub right_or_below : ℕ → ℕ → ℕ → Bool
right_or_below c i j = eqb (i + 1) j && ltb (i % c + 1) c || eqb (i + c) j

-- a grid's columns, and 1 for the other topologies
abbrev pub columns : Topology → ℕ
columns FullMesh = 1
columns Line = 1
columns Star = 1
columns (Grid c) = c
columns Ring = 1
columns (Tree b) = 1

-- a tree's branching factor, and 0 for the other topologies
abbrev pub branching : Topology → ℕ
branching FullMesh = 0
branching Line = 0
branching Star = 0
branching (Grid c) = 0
branching Ring = 0
branching (Tree b) = b

-- What the builders need of a topology, so that no quotient is by 0 and no product too large.
abbrev pub Sized : Topology → Type 0
Sized t = ((0 < columns t) × (columns t ≤ max_nodes)) × (branching t ≤ max_branching)

-- what the builders need of a topology before question 3 is asked of its second number
pub record Askable (t : Topology) (second most : ℕ) : Type 0 where
  pub column : 0 < columns t
  pub fits : columns t ≤ max_nodes
  pub asked : branching t ≤ second
  pub allowed : most ≤ max_branching

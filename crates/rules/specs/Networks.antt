-- The network that is asked for, by rows or by a topology: the questions put to it, its rows, and what asking for it answers (rules 3.1
-- to 3.5, 9.2 and 9.3).
use Rattle.std.specs.Prelude.{ℕ, Bool, List, Result}
use Rattle.config.specs.Refusals.{unless}
use Rattle.config.specs.declared.refusal.Refusal.{Refusal}
use Rattle.network.specs.Graph.{widened}
use Rattle.network.specs.Questions.{first_no, nodes_of, rows_questions, topology_questions}
use Rattle.network.specs.Topology.{topology_rows, topology_of, graph_of}
use Rattle.network.specs.Distance.{diameter}
use Rattle.network.specs.declared.graph.Graph.{Graph}
use Rattle.rules.specs.declared.networks.Asked.{Asked}
use Rattle.rules.specs.declared.networks.Network.{Network}

-- rows for n nodes, or a topology with its two numbers
pub data RowsOrTopology : Type 0 where
  of_rows : List ℕ → ℕ → RowsOrTopology
  of_topology : ℕ → ℕ → ℕ → RowsOrTopology

-- what a value of the code asks for
abbrev pub asked_for : Asked → RowsOrTopology
asked_for (Asked.Rows rows n) = of_rows rows.now n
asked_for (Asked.Topology topology first second) = of_topology topology first second

-- its questions: 2 and 4, or 1 to 3
abbrev pub network_questions : RowsOrTopology → List (Bool × Refusal)
network_questions (of_rows rows n) = rows_questions rows n
network_questions (of_topology topology first second) = topology_questions topology first second

-- its number of nodes, and their rows
abbrev pub nodes_in : RowsOrTopology → ℕ
nodes_in (of_rows rows n) = n
nodes_in (of_topology topology first second) = nodes_of topology first second

abbrev pub rows_in : RowsOrTopology → List ℕ
rows_in (of_rows rows n) = rows
rows_in (of_topology topology first second) = topology_rows (topology_of topology second) (nodes_of topology first second)

-- its graph: the rows as a run takes them
abbrev pub graph_in : RowsOrTopology → List ℕ
graph_in q = widened (rows_in q) (nodes_in q)

-- what building it answers, `checked_graph` of rows and `built_graph` of a topology
abbrev pub built_for : RowsOrTopology → Result Graph Refusal
built_for q = unless (first_no (network_questions q)) (graph_of (rows_in q) (nodes_in q))

-- its graph with the diameter
abbrev pub network_as : RowsOrTopology → Network
network_as q = record { graph = graph_of (rows_in q) (nodes_in q); diameter = diameter (graph_in q) (nodes_in q) }

-- what asking for it answers
unfoldable pub network_for : RowsOrTopology → Result Network Refusal
network_for q = unless (first_no (network_questions q)) (network_as q)

-- What is known of a run once no question of rule 9.2 has refused it.
use Rattle.std.specs.Prelude.{ℕ, ◌≤◌, ◌<◌, ◌≡◌, true, List}
use Rattle.config.specs.Limits.{max_nodes, max_terms, max_repeats}
use Rattle.network.specs.Graph.{Checked}
use Rattle.network.specs.Distance.{diameter}
use Rattle.rules.specs.Questions.{slots_allowed, slots_suffice}
use Rattle.rules.specs.Run.{Given}

-- a graph of 2 to 32 nodes that passes the row check, with its diameter
pub record MeasuredGraph (graph : List ℕ) (n d : ℕ) : Type 0 where
  pub checked : Checked graph n
  pub two : 2 ≤ n
  pub few : n ≤ max_nodes
  pub measured : d ≡ diameter graph n

-- the run of such a graph, whose diameter is then below 32, with numbers that questions 5, 6, 16, 8 and 9 let pass; of the loss rate,
-- question 7, nothing is needed
pub record Accepted (g : Given) : Type 0 where
  pub checked : Checked g.rows g.nodes
  pub two : 2 ≤ g.nodes
  pub few : g.nodes ≤ max_nodes
  pub measured : g.diameter ≡ diameter g.rows g.nodes
  pub diameter_low : g.diameter < max_nodes
  pub repeats_low : 1 ≤ g.repeats
  pub repeats_high : g.repeats ≤ max_repeats
  pub round_slots : slots_allowed g.round_slots ≡ true
  pub slots_suffice : slots_suffice g.repeats g.round_slots ≡ true
  pub proposals : g.proposals ≤ max_terms
  pub interval : 1 ≤ g.interval

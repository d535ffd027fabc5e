use Rattle.std.proofs.Common.{◌≡◌, ℕ, Bool, ◌&&◌, List, length}
use Rattle.network.specs.Graph.{has, all}
use Rattle.protocol.specs.declared.state.PaxosState.{PaxosState}
use Rattle.protocol.specs.Paxos.{logged}
use Rattle.pipeline.specs.Round.{state_of, shortest_from}
use Rattle.pipeline.specs.View.{states_of}
use Rattle.rounds.proofs.survey.survey.Given as goal

-- node i's log holds each proposal
abbrev pub full : ℕ → List PaxosState → ℕ → ℕ → Bool
full n states proposals i = all proposals (λ (t : ℕ). logged t (state_of (states_of n states) i).log)

abbrev pub invariant-loop-state : goal.invariant-loop-state
invariant-loop-state l =
    (l.shortest ≡ shortest_from (length (state_of (states_of l.n l.states) 0).log) (states_of l.n l.states) l.state-index)
    × (all l.proposals (has l.common) ≡ full l.n l.states l.proposals 0 && all l.state-index (full l.n l.states l.proposals))

-- The theorems on a run, and the laws that they rest on.
--     FirstNo      the questions in order, and what those that pass leave
--     Found        the network that is asked for
--     Rounds       bounds of a round
--     Ends         one round more, or an end; what every round keeps
--     FirstRounds  the rounds of a run one by one
--     Admitted     what acceptance says of a run
--     Outcomes     the outcome of a run, from what asking for its network answered
--     Votes        unions and sizes of sets of nodes, and the set of the initiators of consecutive rounds
--     Claimed      a node's state in a run that loses nothing
--     ExactTurns   the two turns of a node in a round of it
--     ExactRound   what the nodes share in it, and one round
--     Sums         sums over rounds and nodes
--     ExactRun     where it stands after k rounds
--     ExactEnd     it stops by itself after P + n / 2 rounds
--     ExactBuffers what the log and record buffers then hold
--     ExactRounds  demand 3
--     NothingLost  attempts and successes are equal exactly when nothing is lost
--     Tallies      what the nodes share grows by little in a round
--     RunBounds    bounds on the counts of every accepted run
--     Coverage     the covered nodes of a round are those that took part
--     SentPackets  the packets of every accepted run
--     ShortRounds  what question 16 leaves, and what it rules out
--     LargerLimit  a run with a larger slot limit goes on where the other stopped
pub mod FirstNo
pub mod Found
pub mod Rounds
pub mod Ends
pub mod FirstRounds
pub mod Admitted
pub mod Outcomes
pub mod Votes
pub mod Claimed
pub mod ExactTurns
pub mod ExactRound
pub mod Sums
pub mod ExactRun
pub mod ExactEnd
pub mod ExactBuffers
pub mod ExactRounds
pub mod NothingLost
pub mod Tallies
pub mod RunBounds
pub mod Coverage
pub mod SentPackets
pub mod ShortRounds
pub mod Taken
pub mod LargerLimit

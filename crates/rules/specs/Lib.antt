-- What is right for a run.
--     Run          the rounds, the four ends and the run
--     Networks     the network that is asked for, by rows or by a topology
--     Questions    the questions put to an input
--     Accepted     what the questions leave of a run
--     Entries      what an entry answers, and what it leaves in the lent buffers
--     Answers      what the code's answers say
--     ExactRounds  demand 3
--     NothingLost  when a run has lost nothing
--     RunBounds    bounds on the counts of every accepted run
--     Coverage     the covered nodes of a round are those that took part
--     SentPackets  the packets of every accepted run
--     ShortRounds  what question 16 leaves, and what it rules out
--     LargerLimit  a run with a larger slot limit goes on where the other stopped
pub mod Run
pub mod Networks
pub mod Questions
pub mod Accepted
pub mod Entries
pub mod Answers
pub mod ExactRounds
pub mod NothingLost
pub mod RunBounds
pub mod Coverage
pub mod SentPackets
pub mod ShortRounds
pub mod LargerLimit

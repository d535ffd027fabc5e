-- What is right for the crate `protocol`.
--     Paxos    a node's state, and what is done with it (rules 5.1, 5.2 and 5.4 to 5.8)
--     Turns    the initiator's turn and a participant's (rules 5.9 and 5.10)
--     View     the state that the code's struct stands for, and what holds of it
--     Growth   how a state changes in a turn; terms that carry their own data
pub mod Paxos
pub mod Turns
pub mod View
pub mod Growth

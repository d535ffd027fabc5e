-- Laws that several proofs use.
--     Sets       the definitions' sets of nodes, and the code's operators on words
--     Places     a list after a store, by place; tests on numbers
--     Logs       what is logged, by entries
--     Words      sets of terms in a word
--     Kept       what a kept state says, the first state, and each step on the struct
--     Commit     laws of commits and of the searches
--     Growing    a commit lets logs and last accepted only grow
--     Steps      each function as its definition has it
--     Merges     votes that are merged, term by term
--     Chains     the turns' steps put together
--     Laws       what every turn keeps
--     TurnLaws   the same of each turn, by name
--     Starred    the starred runs
pub mod Sets
pub mod Places
pub mod Logs
pub mod Words
pub mod Kept
pub mod Commit
pub mod Growing
pub mod Steps
pub mod Merges
pub mod Chains
pub mod Laws
pub mod TurnLaws
pub mod Starred

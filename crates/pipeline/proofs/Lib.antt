-- The laws that several proofs and the crate above use.
--     StateTables  the table of empty states, of three sizes
--     Recordings   records: one more, in the history and in the list
--     RecordsGrow  records that were made stay
--     Sharing      what the nodes share between rounds
pub mod StateTables
pub mod Recordings
pub mod RecordsGrow
pub mod Sharing

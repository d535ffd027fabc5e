-- What is right for the validity of a configuration that was filed.
--     Validity  what it is
--     Laws      what it says of a run of that configuration
pub mod Validity
pub mod Laws

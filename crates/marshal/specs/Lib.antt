-- Values as the numbers that a call has in C.
pub mod Convert
pub mod Files
pub mod Numbers
pub mod Packets
pub mod Previews
pub mod Texts

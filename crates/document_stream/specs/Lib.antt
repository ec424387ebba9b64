pub mod Bodies
pub mod Reads

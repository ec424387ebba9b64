-- What rules ask of an index, and the buckets that they make of it.
pub mod Entries
pub mod Listed
pub mod Keyed
pub mod Streams
pub mod Rules
pub mod Matches
pub mod Tables

-- Walks over posting lists, and what they find.
pub mod Entries
pub mod Starts
pub mod Found
pub mod Numbers
pub mod Gathered
pub mod Blocks
pub mod Beginnings
pub mod Prefixes

-- Counts from the lists of a facet index.
pub mod Matches
pub mod Hits
pub mod Rows
pub mod Ends

-- Documents by what they have under their paths.
pub mod LeavesView
pub mod Documents
pub mod Ends
pub mod Counted
pub mod Places
pub mod Batches
pub mod Ranges
pub mod Sorts
pub mod Starts

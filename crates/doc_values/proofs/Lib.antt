pub mod Marks
pub mod Placed
pub mod Candidates
pub mod Documents
pub mod Broken
pub mod Leaves
pub mod Grouped

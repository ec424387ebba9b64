-- Documents with their rows, and what an index keeps of them.
pub mod Documents
pub mod Standing
pub mod Changes

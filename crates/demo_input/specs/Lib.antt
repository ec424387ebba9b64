-- What the demo sends, and what it prints.
pub mod Draws
pub mod Documents
pub mod Steps
pub mod Summary

-- Lemmas that tie the machine and its scan to the grammar.
pub mod Complete
pub mod Sound
pub mod Taking
pub mod PieceRuns
pub mod Explains
pub mod Viable
pub mod Readings
pub mod Steppings
pub mod Frames

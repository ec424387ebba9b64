-- The keys and the costs of the program's documents.
pub mod Splits
pub mod Ranks

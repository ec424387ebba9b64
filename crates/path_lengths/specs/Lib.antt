-- The lengths of the paths of documents.
pub mod Lengths
pub mod Measured
pub mod Lasts

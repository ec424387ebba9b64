pub mod Lengths
pub mod Moving

pub mod Splits
pub mod Rows
pub mod Paths
pub mod Literals
pub mod Patterns
pub mod Numbers
pub mod Named
pub mod Keys

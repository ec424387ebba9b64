pub mod Bare
pub mod Priced

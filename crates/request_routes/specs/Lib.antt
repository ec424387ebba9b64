pub mod Routes
pub mod Patterns
pub mod Query
pub mod Held
pub mod Laws

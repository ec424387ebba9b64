-- Laws of damage.
pub mod Agrees
pub mod Fields
pub mod Journal
pub mod Laws

pub mod Members
pub mod Tasks
pub mod Laws

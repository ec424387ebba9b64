pub mod State
pub mod Machine
pub mod Batches
pub mod Needs
pub mod Run
pub mod Laws

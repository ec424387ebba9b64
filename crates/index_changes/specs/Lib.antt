-- An index, and what a change does to it.
pub mod Codes
pub mod Index
pub mod Refusals
pub mod PlanView
pub mod Plans
pub mod Fetches
pub mod Laws
pub mod Indexed
pub mod Updating
pub mod Keyed
pub mod Images
pub mod Batches
pub mod Gathering

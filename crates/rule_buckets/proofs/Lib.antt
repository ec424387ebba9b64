pub mod Members
pub mod Listing
pub mod Levels
pub mod Streaming
pub mod Within
mod OneLevel
pub mod Keys
pub mod Slices
pub mod OpenLemmas
pub mod Tables

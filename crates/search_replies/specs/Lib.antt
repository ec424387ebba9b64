pub mod Costs
pub mod Members
pub mod Formatted
pub mod Positions
pub mod Names
pub mod Marks
pub mod Shown
pub mod Added

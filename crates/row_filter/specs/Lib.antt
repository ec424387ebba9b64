-- Which documents pass a filter.
pub mod Holds
pub mod Attributes

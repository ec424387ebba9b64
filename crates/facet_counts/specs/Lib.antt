-- How many documents have each value of an attribute.
pub mod Order
pub mod FacetView
pub mod Counts
pub mod Counting

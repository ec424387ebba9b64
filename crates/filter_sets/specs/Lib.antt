-- Sets of documents that pass a filter.
pub mod Selects
pub mod Conditions

-- What contracts see of a filter.
pub mod Tree
pub mod View
pub mod Number

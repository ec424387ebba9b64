-- Documents under keys, and what contracts see of their buckets.
pub mod Rows
pub mod Buckets
pub mod Ordered
pub mod Entries
pub mod Numbers
pub mod Heaps
pub mod Left

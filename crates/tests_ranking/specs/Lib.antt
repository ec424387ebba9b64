-- Documents in an index, each at the place of its number.
pub mod Ranked
pub mod Shelves

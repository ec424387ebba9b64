-- Documents with their facet index.
pub mod Shelves

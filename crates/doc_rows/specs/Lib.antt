-- What a search sees of a document.
pub mod Texts
pub mod Facets
pub mod Rows

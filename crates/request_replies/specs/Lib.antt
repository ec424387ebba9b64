pub mod Facets
pub mod Replies

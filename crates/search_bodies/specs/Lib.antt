pub mod Json
pub mod Values
pub mod Formats
pub mod Searches
pub mod MultiData
pub mod Multi
pub mod FacetSearches

-- An index: what a search finds in it.
pub mod Matching
pub mod Distinct
pub mod Found
pub mod Looked
pub mod FacetHits
pub mod Fetches
pub mod Opened
pub mod Terms
pub mod Laws
pub mod Whole
pub mod Shown
pub mod Among
pub mod Ranking

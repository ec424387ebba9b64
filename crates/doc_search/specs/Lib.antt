-- A search over stored documents.
pub mod Rows
pub mod Entries
pub mod Matches
pub mod Laws
pub mod Lists
pub mod Meeting
pub mod Ranked
pub mod Matched
pub mod Searched
pub mod Valued
pub mod Found

-- What a search found.
pub mod View

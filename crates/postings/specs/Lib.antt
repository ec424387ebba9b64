-- Posting lists of places, and what changes of documents make of them.
pub mod Documents
pub mod Dictionary
pub mod Changes
pub mod Fresh
pub mod Prefixes
pub mod Words

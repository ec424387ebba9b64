-- Rows of synonyms, and what they let words stand for.
pub mod SynonymRowView
pub mod Synonyms
pub mod Keyed

pub mod SynonymLemmas
pub mod EachOnce
pub mod UseLemmas

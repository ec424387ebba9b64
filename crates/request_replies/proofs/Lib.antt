pub mod PrintLemmas
pub mod TermLemmas
pub mod FacetLemmas

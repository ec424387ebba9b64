-- Lemmas on documents by the whole query.
pub mod SetLemmas
pub mod PathLemmas
pub mod CostLemmas

-- Lemmas on documents, each at the place of its number.
pub mod ShelfLemmas

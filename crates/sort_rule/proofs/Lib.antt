pub mod SortLemmas
pub mod EntryLemmas
pub mod GroupLemmas
pub mod HeapLemmas

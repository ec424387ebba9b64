pub mod SetLemmas
pub mod KeptLemmas
pub mod MovedLemmas

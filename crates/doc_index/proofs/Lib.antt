pub mod SameLemmas
pub mod StoreLemmas
pub mod ReadyLemmas
pub mod RowLemmas
pub mod NamedLemmas
pub mod LastLemmas
pub mod LeftLemmas
pub mod RisingLemmas

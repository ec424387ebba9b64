pub mod IdLemmas
pub mod PartLemmas
pub mod AfterLemmas

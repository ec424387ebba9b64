pub mod ApartLemmas
pub mod PathLemmas
pub mod StartLemmas

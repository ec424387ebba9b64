pub mod NameLemmas
pub mod ShelfLemmas
pub mod ShortLemmas
pub mod PathLemmas
pub mod MetLemmas
pub mod ReserveLemmas

pub mod ShownLemmas
pub mod AddedLemmas
pub mod CropLemmas
pub mod PlaceLemmas
pub mod TermLemmas

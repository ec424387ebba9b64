pub mod ItemLemmas
pub mod LevelLemmas
pub mod ReadingLemmas
pub mod SoundLemmas
pub mod CostLemmas
pub mod TermLemmas
pub mod CutLemmas

pub mod DrawLemmas
pub mod DocumentLemmas
pub mod StepLemmas
pub mod BodyLemmas
pub mod TableLemmas

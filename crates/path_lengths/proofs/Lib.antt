-- Lemmas on the lengths of paths.
pub mod LastLemmas
pub mod BatchLemmas
pub mod AnswerLemmas
pub mod StepLemmas

pub mod AsciiLemmas
pub mod Steps
pub mod WordsLemmas

-- What a filter's text is: its grammar, its spelling and its numbers.
pub mod Grammar
pub mod Text
pub mod Number
-- The machine over tokens and the scan over bytes, which lemmas tie to the grammar.
pub mod Machine
pub mod Scan
pub mod Steps
pub mod Held

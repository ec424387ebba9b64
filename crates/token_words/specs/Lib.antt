-- Words and separators, the tokens of a text, and what these are in other words.
pub mod Normal
pub mod Segments
pub mod Tokens
pub mod Words

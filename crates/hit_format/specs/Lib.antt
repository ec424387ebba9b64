-- Which words of a text a query matched, and the text with these marked and cut to a window.
pub mod Matched
pub mod Windows
pub mod Tagged
pub mod Formats
pub mod Laws
-- and what private contracts speak of: the walk over the tokens, terms by their first words, and tokens by their marks
pub mod Runs
pub mod FirstWords
pub mod Marked
pub mod Cuts

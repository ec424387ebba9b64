-- What a reader has to believe above the grammar, from a text's faults to the answer of `parse`.
pub mod Faults
pub mod Texts
pub mod Parsed
pub mod Answer
pub mod Answers
-- The parser's own machines, which the law of `answers_are_the_grammars` ties to the grammar.
pub mod Limit
pub mod Gives
pub mod Held
pub mod Reader

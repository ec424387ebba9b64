-- Changes as bytes.
pub mod Spelling
pub mod Fields
pub mod Change
pub mod Answers
pub mod Fits

-- What the fakes of tests answer.
pub mod Genres

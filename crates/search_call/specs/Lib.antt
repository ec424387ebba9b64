-- What a search asks for.
pub mod TreeCode
pub mod FormatView
pub mod SearchView
pub mod Windows

-- What the settings of an index and a search come to.
pub mod QueryWords
pub mod Rules
pub mod Uses
pub mod Asked
pub mod SearchFaults

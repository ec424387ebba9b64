pub mod Calls
pub mod Crashed
pub mod Pieces

pub mod JsonBodies
pub mod Listed
pub mod Lengths
pub mod Colons

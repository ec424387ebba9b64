pub mod Refusals
pub mod Bodies
pub mod Asked
pub mod Calls
pub mod Held

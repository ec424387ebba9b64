pub mod Runs
pub mod Requests
pub mod Settling
pub mod Needing

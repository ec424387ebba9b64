pub mod Patches
pub mod Accepted
pub mod Asking

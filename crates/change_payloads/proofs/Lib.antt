mod Loop
mod Texts
pub mod Found
pub mod Again
pub mod Back

-- What serving a link is.
pub mod Demo
pub mod LinkState
pub mod Laws
pub mod Lines
pub mod Links
pub mod Opening
pub mod Passed
pub mod Run
pub mod Served
pub mod Statuses
pub mod Telling
pub mod Turns
pub mod Words

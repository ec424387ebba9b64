-- What the wire is.
pub mod Head
pub mod Cut
pub mod Judge
pub mod Fields
pub mod Stream
pub mod Stops
pub mod Wire
pub mod Reply
pub mod Sent

pub mod Indexes
pub mod Changes
pub mod Payloads
pub mod Needs
pub mod Images
pub mod Inside
pub mod Numbers

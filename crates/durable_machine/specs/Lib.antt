-- A machine on two disks.
pub mod Held
pub mod Durable
pub mod Recorded
pub mod Reopened

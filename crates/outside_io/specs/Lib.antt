-- What the outside means, for contracts.
pub mod Faults
pub mod Bytes
pub mod MemoryLink
pub mod Disks
pub mod MemoryDisk
pub mod Moments

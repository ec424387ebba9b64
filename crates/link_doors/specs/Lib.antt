-- What a door does, for contracts.
pub mod Doors
pub mod MemoryDoor

pub mod Names
pub mod ShortNames
pub mod Shelves
pub mod Paths
pub mod Met

-- What settings are, what a patch makes of them, and how they are printed.
pub mod View
pub mod Values
pub mod Rules
pub mod Table
pub mod Patch
pub mod Json
pub mod Limits
pub mod Inside
pub mod Paths
pub mod Laws

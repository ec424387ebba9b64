-- What a query asks for: its items, its levels, and how each level may be read.
pub mod ItemView
pub mod Items
pub mod Levels
pub mod ItemReadings
pub mod Graph
pub mod Cuts

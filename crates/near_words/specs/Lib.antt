-- How near two words stand, from the entries of their places.
pub mod EntryCost
pub mod ByCost
pub mod Inside
pub mod FromDocument
pub mod Narrowed

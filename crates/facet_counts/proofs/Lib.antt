pub mod InOrder
pub mod Lists
pub mod Numbers
pub mod Tallying
pub mod Keys
pub mod Counters
pub mod Replies

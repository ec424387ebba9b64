-- Why nothing is spelled so far.
pub mod Tells
pub mod ChangeTells
pub mod ImageTells
pub mod Joined
pub mod JournalTells

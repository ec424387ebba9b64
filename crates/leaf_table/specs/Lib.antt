-- The leaves of each document.
pub mod Rows
pub mod Tables
pub mod Columns
pub mod Numbers
pub mod Changes

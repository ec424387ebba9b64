-- Stored documents as a row index knows them, and its changes.
pub mod Documents
pub mod Named
pub mod Last
pub mod Ready
pub mod Left

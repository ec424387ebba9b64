-- Hits in nested buckets: the order of documents, the window of hits, and the classes that are opened on the way.
pub mod Hits
pub mod Classes
pub mod Buckets
pub mod Trace
pub mod Told
pub mod Opens
pub mod Coming
pub mod Laws
pub mod Parts
pub mod Walk
pub mod Pending
pub mod RefuseView
pub mod Tables

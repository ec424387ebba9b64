-- The sets of documents beside a posting list, and what a change makes of its entries.
pub mod Sets

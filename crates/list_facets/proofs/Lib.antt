pub mod TextLemmas
pub mod NumberLemmas
pub mod EndLemmas
pub mod HitLemmas
pub mod KeyLemmas
pub mod OwnLemmas

pub mod JoinLemmas
pub mod SweepLemmas
pub mod ConditionLemmas
pub mod SelectLemmas
pub mod TestLemmas
pub mod NumberLemmas
pub mod EndLemmas

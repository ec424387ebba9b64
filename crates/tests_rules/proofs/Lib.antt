pub mod OneKeyLemmas
pub mod PricedLemmas

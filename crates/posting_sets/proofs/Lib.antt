-- Lemmas on walks over posting lists.
pub mod PassLemmas
pub mod InsideLemmas
pub mod StartLemmas
pub mod WalkLemmas
pub mod PlaceLemmas
pub mod OccursLemmas
pub mod PrefixLemmas
pub mod NumberLemmas
pub mod LeastLemmas
pub mod ByNumberLemmas
pub mod BlockLemmas
pub mod BeginningLemmas
pub mod KeptLemmas
pub mod RankLemmas
pub mod FirstLemmas
pub mod NarrowLemmas
pub mod GatheredLemmas

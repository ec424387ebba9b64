mod SplitLemmas
mod RankLemmas
mod StepLemmas

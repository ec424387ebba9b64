-- Which conditions a document meets. Of the conditions on one number of the same words or term it meets at most one.
use Rattle.std.specs.Prelude.{ℕ, ◌==◌, ◌<◌, Bool, true, ◌&&◌, List}
use Rattle.search_base.specs.declared.document.Place.{Place}
use Rattle.search_base.specs.BlockCosts.{least_rank, least_bucket}
use Rattle.search_base.specs.Occurrence.{occurs}
use Rattle.search_base.specs.PairCost.{asked_cost}
use Rattle.condition_graph.specs.declared.condition.Condition.{Condition}
use Rattle.condition_graph.specs.declared.condition.Condition.TheVariants.{Free, Occurs, Pair, AtRank, AtBucket}

-- the document, which has these words at these places, meets the condition
abbrev pub meets : List Place → Condition → Bool
meets places Free = true
meets places (Occurs term) = occurs places term
meets places (Pair left right right_prefix cost) = asked_cost places left right_prefix right == cost
meets places (AtRank term rank) = occurs places term && (least_rank places term == rank)
meets places (AtBucket term at) = occurs places term && (least_bucket places term == at)

-- a place in a path whose rank is below this number
abbrev pub IsRanked : ℕ → Place → Type 0
IsRanked ranks place = place.rank < ranks

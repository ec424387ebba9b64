-- Words in a row, each of which costs nothing in the documents of its own rank.
use Rattle.std.specs.Prelude.{ℕ, ◌≡◌, ◌+◌, ◌<◌, Bool, true, List, Option, Some, None}
use Rattle.doc_sets.specs.Sets.{has}
use Rattle.doc_sets.specs.SetView.{SetView}
use Rattle.condition_graph.specs.declared.condition.Condition.{Condition}
use Rattle.condition_graph.specs.declared.condition.Condition.TheVariants.{Free, Occurs, Pair, AtRank, AtBucket}
use Rattle.condition_graph.specs.declared.graph.ConditionEdge.{ConditionEdge}
use Rattle.condition_graph.specs.Promise.{IsCondition}
use Rattle.bench_parts.specs.Splits.{ids_at}

-- the rank that a condition asks for
abbrev pub rank_of : Condition → Option ℕ
rank_of Free = None
rank_of (Occurs term) = None
rank_of (Pair left right right_prefix cost) = None
rank_of (AtRank term rank) = Some rank
rank_of (AtBucket term at) = None

-- the document is one of the rank, or no rank is asked for
abbrev pub is_at : List SetView → Option ℕ → ℕ → Bool
is_at sets None d = true
is_at sets (Some rank) d = has (ids_at sets rank) d

abbrev pub is_ranked : List SetView → Condition → ℕ → Bool
is_ranked sets condition = is_at sets (rank_of condition)

-- an edge over one of so many words, at a cost of 0 or 1
pub record IsStep (words : ℕ) (edge : ConditionEdge) : Type 0 where
  pub within : edge.from < words
  pub one : edge.to ≡ edge.from + 1
  pub cost : edge.cost < 2
  pub condition : IsCondition edge.condition

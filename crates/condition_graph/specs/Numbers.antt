-- Conditions on a number: what the number is, and the same condition on another one.
use Rattle.std.specs.Prelude.{ℕ, Option, None, Some}
use Rattle.condition_graph.specs.declared.condition.Condition.{Condition}
use Rattle.condition_graph.specs.declared.condition.Condition.TheVariants.{Free, Occurs, Pair, AtRank, AtBucket}

-- the pair cost, the rank or the bucket that a document has to have
abbrev pub number_of : Condition → Option ℕ
number_of Free = None
number_of (Occurs term) = None
number_of (Pair left right right_prefix cost) = Some cost
number_of (AtRank term rank) = Some rank
number_of (AtBucket term at) = Some at

-- the condition on another number of the same words or term
abbrev pub at_number : ℕ → Condition → Condition
at_number n Free = Free
at_number n (Occurs term) = Occurs term
at_number n (Pair left right right_prefix cost) = Pair left right right_prefix n
at_number n (AtRank term rank) = AtRank term n
at_number n (AtBucket term at) = AtBucket term n

-- The least rank or bucket of the places where a term occurs, start after start.
use Rattle.std.specs.Prelude.{ℕ, ◌≤◌, ◌==◌, ◌&&◌, Bool, List, Option, Some, None, if◌then◌else◌}
use Rattle.std.specs.Option.{IfSome}
use Rattle.search_base.specs.declared.document.Place.{Place}
use Rattle.search_base.specs.declared.query.Block.{Block}
use Rattle.search_base.specs.declared.query.PlacedBlock.{PlacedBlock}
use Rattle.search_base.specs.declared.rule.Rule.{Rule}
use Rattle.search_base.specs.BlockCosts.{block_cost}
use Rattle.search_base.specs.Bucket.{bucket_of}
use Rattle.search_base.specs.Least.{least_by}
use Rattle.search_base.specs.Occurrence.{occurs}
use Rattle.plain_rank.specs.Starts.{starts_at}

-- the rank of a place, or its bucket
abbrev pub number_of : Bool → Place → ℕ
number_of by_rank place = if by_rank then place.rank else bucket_of place.position

-- the two places are at one position of one path
abbrev pub is_there : Place → Place → Bool
is_there start place = (start.path.0 == place.path.0) && (start.position == place.position)

-- the number of a place that is at the position of another
abbrev pub number_there : Bool → Place → Place → Option ℕ
number_there by_rank start place = if is_there start place then Some (number_of by_rank place) else None

-- the least number of the places at which the words start here
abbrev pub number_from : Bool → List Place → Bool → List ℕ → List (List ℕ) → Place → Option ℕ
number_from by_rank places prefix first rest start =
    if starts_at places prefix first rest start then least_by (number_there by_rank start) places else None

-- the cost of a block, if it occurs
abbrev pub cost_if : Rule → List Place → Block → Option ℕ
cost_if rule places block = if occurs places block.term then Some (block_cost rule places block) else None

-- the block costs at most 65,535 for each of ten items
abbrev pub IsCheap : Rule → List Place → PlacedBlock → Type 0
IsCheap rule places placed = IfSome (cost_if rule places placed.block) (λ cost. cost ≤ 655350)

-- The documents of each pair cost.
use Rattle.std.specs.Prelude.{ℕ, ◌/◌, ◌^◌, ◌==◌, List, map, filter}
use Rattle.std.specs.List.{range_with_len}
use Rattle.near_words.specs.declared.costs.Costed.{Costed}
use Rattle.near_words.specs.EntryCost.{cost_of}

-- the entries of a document
abbrev pub run_of : ℕ → List ℕ → List ℕ
run_of id entries = filter (λ entry. entry / 2 ^ 32 == id) entries

-- the pair cost in a document of two words that have these entries
abbrev pub cost_in : List ℕ → List ℕ → ℕ → ℕ
cost_in left right id = cost_of (run_of id left) (run_of id right)

-- the documents that have a cost
abbrev pub ids_at : (ℕ → ℕ) → List ℕ → ℕ → List ℕ
ids_at cost ids k = filter (λ id. cost id == k) ids

-- the same for each cost from 0 to 6
abbrev pub ids_by_cost : (ℕ → ℕ) → List ℕ → List (List ℕ)
ids_by_cost cost ids = map (ids_at cost ids) (range_with_len 0 7)

-- those that were found with a cost
abbrev pub costed_at : List Costed → ℕ → List ℕ
costed_at found k = map (λ each. each.id.0) (filter (λ each. each.cost == k) found)

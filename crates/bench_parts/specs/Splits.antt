-- The keys of documents under rules that put some of them before all others.
use Rattle.std.specs.Prelude.{ℕ, List, [], Option, Some, None, slice_get, if◌then◌else◌}
use Rattle.doc_sets.specs.Sets.{has}
use Rattle.doc_sets.specs.SetView.{SetView}
use Rattle.search_base.specs.declared.cost_key.CostKey.{CostKey}
use Rattle.search_base.specs.declared.cost_key.CostKey.TheVariants.{Number}

-- 0 for the documents of a set, and 1 for all others
abbrev pub split_key : List ℕ → ℕ → CostKey
split_key first d = Number (if has first d then 0 else 1)

-- the documents of a set, where there is one
abbrev pub ids_of : Option SetView → List ℕ
ids_of None = []
ids_of (Some set) = set.ids

abbrev pub ids_at : List SetView → ℕ → List ℕ
ids_at sets level = ids_of (slice_get sets level)

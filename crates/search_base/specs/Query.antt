-- The costs of a document under a query, which is here the readings of its levels: the definition knows no graph.
use Rattle.std.specs.Prelude.{ℕ, ◌+◌, Bool, List, [], ◌∷◌, map, filter, slice_get, option_and_then, unwrap_or, Option, Some, None, if◌then◌else◌}
use Rattle.std.specs.List.{list_any}
use Rattle.std.specs.Option.{option_map}
use Rattle.search_base.specs.declared.cost_key.CostKey.{CostKey}
use Rattle.search_base.specs.declared.cost_key.CostKey.TheVariants as cost
use Rattle.search_base.specs.declared.document.Place.{Place}
use Rattle.search_base.specs.declared.query.Block.{Block}
use Rattle.search_base.specs.declared.rule.Rule.{Rule}
use Rattle.search_base.specs.declared.rule.Rule.TheVariants.{Words, Proximity, Field, Position, Whole, Inexact, Up, Down}
use Rattle.search_base.specs.GraphView.{GraphView}
use Rattle.search_base.specs.Least.{least}
use Rattle.search_base.specs.Occurrence.{matches}
use Rattle.search_base.specs.Readings.{readings}
use Rattle.search_base.specs.RowsView.{RowsView}
use Rattle.search_base.specs.SortKeys.{least_key, greatest_key, key_under}
use Rattle.search_base.specs.Sums.{reading_cost}
use Rattle.search_base.specs.Whole.{whole_cost}

-- the readings of each level, from the level that keeps every word to the one that keeps the fewest, and the words of
-- all items. Where there are no items there are no levels
pub record Query : Type 0 where
  pub levels : List (List (List Block))
  pub whole : List (List ℕ)

-- the query that a graph stands for
abbrev pub query_of : GraphView → Query
query_of graph = record { levels = map readings graph.levels; whole = graph.whole }

-- some of these readings matches the document
abbrev pub any_matches : List Place → List (List Block) → Bool
any_matches places all = list_any (matches places) all

-- the least sum over those of these readings that match the document, or nothing where none does. Each rule has its own
abbrev pub least_over : Rule → List Place → List (List Block) → Option ℕ
least_over rule places all = least (map (reading_cost rule places) (filter (matches places) all))

-- the number of the first level that matches the document, where the first of these has the number j
abbrev pub first_match : ℕ → List Place → List (List (List Block)) → Option ℕ
first_match j places [] = None
first_match j places (all ∷ levels) = if any_matches places all then Some j else first_match (j + 1) places levels

-- the words cost, which is 0 for each document where the query has no level
abbrev pub cost_under : List Place → List (List (List Block)) → Option ℕ
cost_under places [] = Some 0
cost_under places (all ∷ levels) = first_match 0 places (all ∷ levels)

-- the least sum over the level with this number, 0 where the query has no level
abbrev pub sum_under : Rule → List Place → List (List (List Block)) → ℕ → ℕ
sum_under rule places levels level = unwrap_or (option_and_then (least_over rule places) (slice_get levels level)) 0

-- how far the document is from the whole query, 0 where the query has no level
abbrev pub whole_under : List Place → List (List (List Block)) → List (List ℕ) → ℕ
whole_under places [] words = 0
whole_under places (all ∷ levels) words = whole_cost places words

-- the entry of a rule for a document that the level with this number matches first
abbrev pub entry_under : RowsView → Query → ℕ → Rule → CostKey
entry_under rows query level Words = cost.Number level
entry_under rows query level Proximity = cost.Number (sum_under Proximity rows.places query.levels level)
entry_under rows query level Field = cost.Number (sum_under Field rows.places query.levels level)
entry_under rows query level Position = cost.Number (sum_under Position rows.places query.levels level)
entry_under rows query level Whole = cost.Number (whole_under rows.places query.levels query.whole)
entry_under rows query level Inexact = cost.Number (sum_under Inexact rows.places query.levels level)
entry_under rows query level (Up path) = cost.Up (key_under least_key rows.leaves path)
entry_under rows query level (Down path) = cost.Down (key_under greatest_key rows.leaves path)

-- the costs of a document that matches the query: the entries by the rules, in their order
abbrev pub tuple_under : RowsView → Query → List Rule → Option (List CostKey)
tuple_under rows query rules = option_map (λ level. map (entry_under rows query level) rules) (cost_under rows.places query.levels)

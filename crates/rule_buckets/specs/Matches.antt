-- The documents that match a query, each with the costs by which it is ranked, and the slice of them that is asked for.
use Rattle.std.specs.Prelude.{ℕ, ◌+◌, List, length, map, Option}
use Rattle.std.specs.Option.{option_map}
use Rattle.std.specs.List.{filter_map}
use Rattle.search_base.specs.declared.cost_key.CostKey.{CostKey}
use Rattle.search_base.specs.declared.rule.Rule.{Rule}
use Rattle.search_base.specs.CostOrder.{before}
use Rattle.search_base.specs.GraphView.{GraphView}
use Rattle.search_base.specs.Hits as base
use Rattle.search_base.specs.Hits.{Match}
use Rattle.search_base.specs.RowsView.{RowsView}
use Rattle.search_base.specs.Tuple.{tuple}
use Rattle.bucket_sort.specs.declared.log.Opening.{Opening}
use Rattle.bucket_sort.specs.Trace.{trace}
use Rattle.rule_buckets.specs.declared.hits.HitWindow.{HitWindow}
use Rattle.rule_buckets.specs.Entries.{entry_at, entry_of}
use Rattle.rule_buckets.specs.Rules.{RulesView}

abbrev pub match_at : ℕ → List CostKey → Match
match_at id costs = record { costs = costs; id = id }

-- the match of a document, where the query matches it. `rows` gives what a search sees of each document
abbrev pub match_of : (ℕ → RowsView) → GraphView → List Rule → ℕ → Option Match
match_of rows query rules d = option_map (match_at d) (tuple (rows d) query rules)

-- the matches among these documents, in their order
abbrev pub matches_among : (ℕ → RowsView) → GraphView → List Rule → List ℕ → List Match
matches_among rows query rules universe = filter_map (match_of rows query rules) universe

abbrev pub ids_of : List Match → List ℕ
ids_of matches = map (λ m. m.id) matches

-- the hits from an offset on, of which there are at most as many as the limit says, in their order
abbrev pub hits_of : List Match → ℕ → ℕ → List Match
hits_of = base.hits_of before (λ m. m.costs) (λ m. m.id)

-- the buckets that a search opens on its way to these hits
abbrev pub opened : (ℕ → RowsView) → GraphView → List Rule → List ℕ → ℕ → ℕ → List Opening
opened rows query rules universe offset limit =
    trace before (λ level d. entry_at (rows d) query rules level) (length rules)
    (ids_of (matches_among rows query rules universe)) offset (offset + limit)

-- the documents that rules are over, each with its costs. `rows` gives what an index has of each document
abbrev pub matches_in : {S : Type 0} → (S → ℕ → RowsView) → RulesView S → List Match
matches_in rows over =
    map (λ d. match_at d (map (entry_of (rows over.source d) over.graph) over.rules)) over.matching

-- the hits of a window, in their order
abbrev pub hits_in : {S : Type 0} → (S → ℕ → RowsView) → RulesView S → HitWindow → List Match
hits_in rows over window = hits_of (matches_in rows over) window.offset window.limit

-- the buckets on the way to these
abbrev pub opened_in : {S : Type 0} → (S → ℕ → RowsView) → RulesView S → HitWindow → List Opening
opened_in rows over window =
    trace before (λ level d. entry_at (rows over.source d) over.graph over.rules level) (length over.rules)
    over.matching window.offset (window.offset + window.limit)

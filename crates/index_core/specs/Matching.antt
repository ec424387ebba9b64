-- The documents of an index that match a search, each with the costs by which it is ranked.
use Rattle.std.specs.Prelude.{Bool, List, map, Option, None, if◌then◌else◌}
use Rattle.std.specs.Option.{option_map}
use Rattle.std.specs.List.{filter_map}
use Rattle.serde_json.specs.Data.{Data}
use Rattle.search_base.specs.declared.cost_key.CostKey.{CostKey}
use Rattle.search_base.specs.declared.rule.Rule.{Rule}
use Rattle.search_base.specs.Query.{Query, tuple_under}
use Rattle.search_base.specs.RowsView.{RowsView}
use Rattle.search_call.specs.SearchView.{SearchView}
use Rattle.row_filter.specs.Holds.{holds}
use Rattle.doc_rows.specs.declared.path_use.PathUse.{PathUse}
use Rattle.doc_rows.specs.Rows.{rows_of}
use Rattle.doc_store.specs.Store.{Row}
use Rattle.index_changes.specs.Index.{Index}
use Rattle.search_settings.specs.QueryWords.{query_with}
use Rattle.search_settings.specs.Uses.{uses_from}
use Rattle.search_settings.specs.Rules.{rules_with}

-- how each path of the index is used, in the order of the registry
abbrev pub uses_in : Index → List PathUse
uses_in index = uses_from index.settings 0 index.store.paths

-- what a search sees of a document of the index
abbrev pub rows_in : Index → Data → RowsView
rows_in index document = rows_of document index.store.paths (uses_in index)

-- the rules by which a search ranks documents of the index
abbrev pub rules_in : Index → SearchView → List Rule
rules_in index call = rules_with index.settings index.store.paths call.sort

abbrev pub query_in : Index → SearchView → Query
query_in index call = query_with index.settings call

-- a document that matches, with its costs
pub record Matching : Type 0 where
  pub row : Row
  pub costs : List CostKey

abbrev pub with_costs : Row → List CostKey → Matching
with_costs row costs = record { row = row; costs = costs }

-- whether a document passes the filter
abbrev pub passes : Index → SearchView → Data → Bool
passes index call document = holds index.store.paths (rows_in index document) call.filter

-- the costs of a document, where it passes the filter and matches the query
abbrev pub costs_in : Index → SearchView → Data → Option (List CostKey)
costs_in index call document =
    if passes index call document
    then tuple_under (rows_in index document) (query_in index call) (rules_in index call)
    else None

-- the document, where it has costs
abbrev pub match_of : Index → SearchView → Row → Option Matching
match_of index call row = option_map (with_costs row) (costs_in index call row.document)

-- the documents that match, in the order of their internal ids
abbrev pub matching : Index → SearchView → List Matching
matching index call = filter_map (match_of index call) index.store.rows

-- what a search sees of the documents that match
abbrev pub rows_matching : Index → SearchView → List RowsView
rows_matching index call = map (λ m. rows_in index m.row.document) (matching index call)

-- What contracts see of hits.
use Rattle.std.specs.Prelude.{◌≡◌, ℕ, List, length, map, Option, None, if◌then◌else◌}
use Rattle.std.specs.Option.{option_map}
use Rattle.std.specs.List.{filter_map}
use Rattle.serde_json.specs.Data.{Data}
use Rattle.search_base.specs.declared.cost_key.CostKey.{CostKey}
use Rattle.search_base.specs.Query.{tuple_under}
use Rattle.doc_store.specs.Store.{Row, row_at}
use Rattle.facet_counts.specs.FacetView.{FacetView}
use Rattle.search_call.specs.SearchView.{SearchView}
use Rattle.search_result.specs.View.{HitView}
use Rattle.index_changes.specs.Index.{Index}
use Rattle.index_core.specs.Found.{found_in}
use Rattle.index_core.specs.Matching.{rows_in, query_in, rules_in}

-- the costs of a document under a search, where it asks for them
abbrev pub costs_shown : Index → SearchView → Data → Option (List CostKey)
costs_shown index call document =
    if call.costs then tuple_under (rows_in index document) (query_in index call) (rules_in index call) else None

-- a stored document as a hit of a search
abbrev pub hit_under : Index → SearchView → Row → HitView
hit_under index call row = record { document = row.document; costs = costs_shown index call row.document }

-- the document with an internal id as a hit, where there is one
abbrev pub hit_at : Index → SearchView → ℕ → Option HitView
hit_at index call id = option_map (hit_under index call) (row_at id index.store.rows)

-- these are the internal ids of the hits, and the numbers and counts that the search finds, before a document is read
pub record Finds (index : Index) (call : SearchView) (ids : List ℕ) (matches : ℕ) (counts : Option (List FacetView))
    : Type 0 where
  pub hits : filter_map (hit_at index call) ids ≡ (found_in index call).hits
  pub number : length ids ≡ length (found_in index call).hits
  pub total : matches ≡ (found_in index call).total
  pub facets : counts ≡ (found_in index call).facets

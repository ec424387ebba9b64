-- What is asked of the documents of an index, and what is found among them before the hits are read.
use Rattle.std.specs.Prelude.{◌≡◌, ℕ, ◌-◌, ◌≤◌, ◌^◌, min, true, List, [], length, map, slice_get, Option, None, Some}
use Rattle.std.specs.Option.{option_map}
use Rattle.search_base.specs.declared.document.DocId.{DocId}
use Rattle.search_base.specs.declared.document.PathId.{PathId}
use Rattle.search_base.specs.declared.value.FacetValue.{FacetValue}
use Rattle.search_base.specs.Graphs.{IsGraph}
use Rattle.search_base.specs.Query.{tuple_under}
use Rattle.search_base.specs.RowsView.{RowsView}
use Rattle.search_base.specs.Tuple.{tuple}
use Rattle.filter_tree.specs.View.{view as tree_of}
use Rattle.bucket_sort.specs.declared.log.Opening.{Opening}
use Rattle.rule_buckets.specs.Matches.{ids_of}
use Rattle.doc_search.specs.declared.found.DocumentsFound.{DocumentsFound}
use Rattle.doc_search.specs.declared.found.Search.{Search}
use Rattle.doc_search.specs.Found.{matches_in, hits_in, counts_in, opened_in, distinct_in, reach_in, opened_for}
use Rattle.doc_search.specs.Searched.{DocumentsView}
use Rattle.doc_store.specs.Store.{Row, row_at}
use Rattle.search_call.specs.SearchView.{SearchView}
use Rattle.search_call.specs.Windows.{offset_of}
use Rattle.search_settings.specs.Asked.{paths_asked}
use Rattle.search_settings.specs.Rules.{path_named}
use Rattle.index_changes.specs.Index.{Index}
use Rattle.index_core.specs.Distinct.{values_under}
use Rattle.index_core.specs.Found.{most_hits, window_end}
use Rattle.index_core.specs.Matching.{query_in, rules_in, uses_in}

-- ---- what is asked

-- A search of documents asks for what the search of the index asks for. Its window begins at the greatest number where
-- the offset is greater, and has no hits then.
pub record IsSearchOf (search : Search) (index : Index) (call : SearchView) : Type 0 where
  pub graph : IsGraph search.query.now
  pub costs : (rows : RowsView) → tuple rows search.query.now (rules_in index call)
      ≡ tuple_under rows (query_in index call) (rules_in index call)
  pub filter : tree_of search.filter.now ≡ call.filter
  pub rules : search.rules.now ≡ rules_in index call
  pub start : search.window.offset ≡ min (offset_of call.window) (2 ^ 64 - 1)
  pub limit : search.window.limit ≡ window_end (most_hits index) call - search.window.offset
  pub within : window_end (most_hits index) call ≤ 2 ^ 64 - 1
  pub most : search.counts.most ≡ index.settings.max_values_per_facet
  pub attributes : search.counts.attributes.items ≡ paths_asked index.settings index.store.paths call.facets

-- ---- values by which documents are told apart

-- the values of a document under an attribute, where there is a document
abbrev pub values_of_row : List ℕ → Option Row → List FacetValue
values_of_row attribute None = []
values_of_row attribute (Some r) = values_under attribute r.document

-- those of the document with an internal id
abbrev pub stored_values : List ℕ → List Row → ℕ → List FacetValue
stored_values attribute rows id = values_of_row attribute (row_at id rows)

-- the path of this name in the registry, whose leaves are kept
pub record IsKeptPath (index : Index) (attribute : List ℕ) (path : PathId) : Type 0 where
  pub named : path_named index.store.paths attribute ≡ Some path
  pub kept : option_map (λ path_use. path_use.faceted) (slice_get (uses_in index) path.0) ≡ Some true

-- ---- what is found, where no two hits may have a value of an attribute in common, if one is named

-- the internal ids of the hits
abbrev pub ids_found : Option (List ℕ) → List Row → DocumentsView → Search → List ℕ
ids_found None rows among search = ids_of (hits_in among search)
ids_found (Some attribute) rows among search = distinct_in among search (stored_values attribute rows)

-- the buckets on the way to them
abbrev pub opened_found : Option (List ℕ) → List Row → DocumentsView → Search → List Opening
opened_found None rows among search = opened_in among search
opened_found (Some attribute) rows among search = opened_for among search (stored_values attribute rows)

-- how many documents are told apart
abbrev pub compared_found : Option (List ℕ) → List Row → DocumentsView → Search → ℕ
compared_found None rows among search = 0
compared_found (Some attribute) rows among search = reach_in among search (stored_values attribute rows)

-- the hits, the number of matches, and the counts
pub record IsFound (attribute : Option (List ℕ)) (rows : List Row) (among : DocumentsView) (search : Search)
    (found : DocumentsFound) : Type 0 where
  pub hits : map (λ (id : DocId). id.0) found.hits.items ≡ ids_found attribute rows among search
  pub total : found.total ≡ length (matches_in among search)
  pub facets : found.facets.items ≡ counts_in among search

-- What a search finds among documents, and a search of the values that they have.
use Rattle.std.specs.Prelude.{◌≡◌, ℕ, Bool, List, length, map, filter}
use Rattle.search_base.specs.declared.rule.Rule.{Rule}
use Rattle.search_base.specs.declared.value.FacetValue.{FacetValue}
use Rattle.search_base.specs.GraphView.{GraphView}
use Rattle.search_base.specs.Hits.{Match}
use Rattle.search_base.specs.RowsView.{RowsView}
use Rattle.filter_tree.specs.Tree.{Tree}
use Rattle.filter_tree.specs.View.{view}
use Rattle.row_filter.specs.Holds.{holds}
use Rattle.facet_counts.specs.FacetView.{FacetView}
use Rattle.facet_counts.specs.Counts.{counted}
use Rattle.facet_counts.specs.declared.rows.CountRow.{CountRow}
use Rattle.list_facets.specs.declared.query.FacetQuery.{FacetQuery}
use Rattle.list_facets.specs.Rows.{rows_asked}
use Rattle.bucket_sort.specs.declared.log.Opening.{Opening}
use Rattle.distinct_hits.specs.Distinct.{texts_by, distinct_hits, reach, taken}
use Rattle.rule_buckets.specs.Entries.{is_match}
use Rattle.rule_buckets.specs.Matches.{hits_of, ids_of}
use Rattle.rule_buckets.specs.Rules.{RulesView}
use Rattle.doc_search.specs.declared.found.Search.{Search}
use Rattle.doc_search.specs.Matched.{rows_matching}
use Rattle.doc_search.specs.Matches.{AreInOrder, matches_among, opened, passing}
use Rattle.doc_search.specs.Rows.{rows_at}
use Rattle.doc_search.specs.Searched.{DocumentsView}

-- whether a document passes a filter, by its rows
abbrev pub passes : DocumentsView → Tree → RowsView → Bool
passes among tree rows = holds among.paths rows tree

-- the rules are over the documents that pass a filter and that a query matches
pub record AreRulesOver (among : DocumentsView) (query : GraphView) (tree : Tree) (rules : List Rule)
    (made : RulesView DocumentsView) : Type 0 where
  pub order : AreInOrder among.documents
  pub source_is : made.source ≡ among
  pub query_is : made.graph ≡ query
  pub rules_are : made.rules ≡ rules
  pub matching_is : made.matching
      ≡ filter (λ d. is_match (rows_at among.documents d) query) (passing (passes among tree) among.documents)

-- ---- a search

abbrev pub passes_in : DocumentsView → Search → RowsView → Bool
passes_in among search = passes among (view search.filter.now)

-- the documents that match, each with its costs
abbrev pub matches_in : DocumentsView → Search → List Match
matches_in among search = matches_among (passes_in among search) search.query.now search.rules.now among.documents

-- the hits of the window, in their order
abbrev pub hits_in : DocumentsView → Search → List Match
hits_in among search = hits_of (matches_in among search) search.window.offset search.window.limit

-- the counts over all documents that match
abbrev pub counts_in : DocumentsView → Search → List FacetView
counts_in among search =
    map (counted search.counts.most (rows_matching (passes_in among search) search.query.now among.documents))
    search.counts.attributes.items

-- the buckets that are opened on the way to the hits
abbrev pub opened_in : DocumentsView → Search → List Opening
opened_in among search =
    opened (passes_in among search) search.query.now search.rules.now among.documents
    search.window.offset search.window.limit

-- ---- a search of which no two hits have a value in common

-- the documents that match, in their order
abbrev pub order_in : DocumentsView → Search → List ℕ
order_in among search = ids_of (hits_of (matches_in among search) 0 (length (matches_in among search)))

-- how many of them are looked at until the window is full, where these are the values of each
abbrev pub reach_in : DocumentsView → Search → (ℕ → List FacetValue) → ℕ
reach_in among search values = reach (texts_by values) (order_in among search) search.window.offset search.window.limit

-- those that are looked at
abbrev pub taken_in : DocumentsView → Search → (ℕ → List FacetValue) → List ℕ
taken_in among search values = taken (texts_by values) (order_in among search) search.window.offset search.window.limit

-- the hits of the window
abbrev pub distinct_in : DocumentsView → Search → (ℕ → List FacetValue) → List ℕ
distinct_in among search values =
    distinct_hits (texts_by values) (order_in among search) search.window.offset search.window.limit

-- the buckets that are opened on the way to those that are looked at
abbrev pub opened_for : DocumentsView → Search → (ℕ → List FacetValue) → List Opening
opened_for among search values =
    opened (passes_in among search) search.query.now search.rules.now among.documents 0 (reach_in among search values)

-- ---- a search of values

-- the values that are asked for, of those that documents have which pass a filter and match a query
abbrev pub values_in : DocumentsView → GraphView → Tree → FacetQuery → List CountRow
values_in among query tree asked = rows_asked asked (rows_matching (passes among tree) query among.documents)

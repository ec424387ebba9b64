-- What a search of the values of an attribute finds.
use Rattle.std.specs.Prelude.{ℕ, List, [], Option, None, Some, Result, Ok}
use Rattle.search_base.specs.declared.document.PathId.{PathId}
use Rattle.search_base.specs.Trying.{◌>>◌}
use Rattle.search_call.specs.SearchView.{FacetCallView, matches_of}
use Rattle.facet_counts.specs.declared.rows.CountRow.{CountRow}
use Rattle.list_facets.specs.declared.query.FacetQuery.{FacetQuery}
use Rattle.list_facets.specs.Rows.{rows_asked}
use Rattle.token_words.specs.Normal.{normal}
use Rattle.search_settings.specs.declared.refusal.SearchRefusal.{SearchRefusal}
use Rattle.search_settings.specs.Rules.{path_named}
use Rattle.search_settings.specs.SearchFaults.{facet_search_fault}
use Rattle.index_changes.specs.Index.{Index}
use Rattle.index_core.specs.Matching.{rows_matching}

-- the text as which the values begin: the normal form of the query; where there is none, each value begins so
abbrev pub prefix_of : Option (List ℕ) → List ℕ
prefix_of None = []
prefix_of (Some query) = normal query

-- what a call asks for at a path: the first values that begin so
abbrev pub asked_at : FacetCallView → PathId → ℕ → FacetQuery
asked_at call path most = record { path = path; prefix = prefix_of call.query; most = most }

-- of the values that the documents have there which match, those that are asked for, in the order of their bytes, each
-- with its spelling and its count
abbrev pub hits_at : Index → FacetCallView → PathId → List CountRow
hits_at index call path =
    rows_asked (asked_at call path index.settings.max_values_per_facet) (rows_matching index (matches_of call))

-- an attribute without a path has no values
abbrev pub hits_under : Index → FacetCallView → Option PathId → List CountRow
hits_under index call None = []
hits_under index call (Some path) = hits_at index call path

abbrev pub facet_hits : Index → FacetCallView → List CountRow
facet_hits index call = hits_under index call (path_named index.store.paths call.name)

-- the same, unless the settings refuse the search
abbrev pub facet_found : Index → FacetCallView → Result (List CountRow) SearchRefusal
facet_found index call = facet_search_fault index.settings call >> Ok (facet_hits index call)

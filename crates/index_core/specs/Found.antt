-- What a search finds: the asked slice of the documents that match, by cost and then by internal id, and the counts of
-- attributes over all of them.
use Rattle.std.specs.Prelude.{ℕ, ◌+◌, ◌-◌, min, List, length, map, Option, None, Some, Result, Ok, if◌then◌else◌}
use Rattle.std.specs.Option.{option_map}
use Rattle.serde_json.specs.Data.{Data}
use Rattle.search_base.specs.declared.cost_key.CostKey.{CostKey}
use Rattle.search_base.specs.CostOrder.{before}
use Rattle.search_base.specs.Hits.{hits_of}
use Rattle.search_base.specs.Trying.{◌>>◌}
use Rattle.search_call.specs.SearchView.{SearchView}
use Rattle.search_call.specs.Windows.{offset_of, limit_of}
use Rattle.facet_counts.specs.FacetView.{FacetView}
use Rattle.facet_counts.specs.Counts.{counted}
use Rattle.search_result.specs.View.{HitView, Found}
use Rattle.search_settings.specs.declared.refusal.SearchRefusal.{SearchRefusal}
use Rattle.index_changes.specs.Index.{Index}
use Rattle.distinct_hits.specs.Kept.{kept}
use Rattle.distinct_hits.specs.Distinct.{distinct_hits}
use Rattle.index_core.specs.Distinct.{distinct_attribute_in, texts_under}
use Rattle.index_core.specs.Matching.{Matching, matching, rows_matching}
use Rattle.search_settings.specs.Asked.{facet_paths}
use Rattle.search_settings.specs.SearchFaults.{search_fault}

-- ---- hits

-- how many matches of an index are counted or handed out at most
abbrev pub most_hits : Index → ℕ
most_hits index = index.settings.max_total_hits

-- the end of the window of hits that a search asks for, where no more than `most` are handed out
abbrev pub window_end : ℕ → SearchView → ℕ
window_end most call = min (offset_of call.window + limit_of call.window) most

-- how many hits the window has room for
abbrev pub window_size : ℕ → SearchView → ℕ
window_size most call = window_end most call - offset_of call.window

abbrev pub hit_of : SearchView → Matching → HitView
hit_of call m = record { document = m.row.document; costs = if call.costs then Some m.costs else None }

-- of documents that match those from a place on, of which there are at most as many as the limit says, in their order
abbrev pub slice_of : List Matching → ℕ → ℕ → List Matching
slice_of matches offset limit = hits_of before (λ m. m.costs) (λ m. m.row.id) matches offset limit

-- all of them in their order
abbrev pub in_order : List Matching → List Matching
in_order matches = slice_of matches 0 (length matches)

abbrev pub texts_of : List ℕ → Matching → List (List ℕ)
texts_of attribute m = texts_under attribute m.row.document

-- those of them that may be handed out, in their order: all, or, where no two may have a value of an attribute in
-- common, each that has none of one that is kept before it
abbrev pub candidates_of : Option (List ℕ) → List Matching → List Matching
candidates_of None matches = in_order matches
candidates_of (Some attribute) matches = kept (texts_of attribute) (in_order matches)

-- of these the ones from the window's offset on, up to its end
abbrev pub asked_of : Option (List ℕ) → ℕ → SearchView → List Matching → List Matching
asked_of None most call matches = slice_of matches (offset_of call.window) (window_size most call)
asked_of (Some attribute) most call matches =
    distinct_hits (texts_of attribute) (in_order matches) (offset_of call.window) (window_size most call)

-- the documents of an index that a search may hand out
abbrev pub candidates : Index → SearchView → List Matching
candidates index call = candidates_of (distinct_attribute_in index call) (matching index call)

-- and its hits
abbrev pub asked : Index → SearchView → List Matching
asked index call = asked_of (distinct_attribute_in index call) (most_hits index) call (matching index call)

-- ---- counts

-- the counts of the attributes that these names name, over all documents that match
abbrev pub counts_of : Index → SearchView → List (List ℕ) → List FacetView
counts_of index call names =
    map (counted index.settings.max_values_per_facet (rows_matching index call))
    (facet_paths index.settings index.store.paths names)

-- ---- what is found

-- the hits with their costs, the number of matches, of which no more are counted than the settings say, and the counts
abbrev pub found_in : Index → SearchView → Found
found_in index call = record {
  hits = map (hit_of call) (asked index call);
  total = min (length (matching index call)) (most_hits index);
  facets = option_map (counts_of index call) call.facets;
}

-- the same, unless the settings refuse the search
abbrev pub found : Index → SearchView → Result Found SearchRefusal
found index call = search_fault index.settings call >> Ok (found_in index call)

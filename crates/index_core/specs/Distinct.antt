-- The attribute of whose values no two hits of a search have one in common.
use Rattle.std.specs.Prelude.{ℕ, List, map, Option}
use Rattle.std.specs.Option.{option_or}
use Rattle.serde_json.specs.Data.{Data}
use Rattle.search_base.specs.declared.value.FacetValue.{FacetValue}
use Rattle.doc_values.specs.Leaves.{found_at}
use Rattle.doc_values.specs.Walk.{walk}
use Rattle.doc_rows.specs.Facets.{leaves_of_path}
use Rattle.facet_counts.specs.Counts.{text_of}
use Rattle.search_call.specs.SearchView.{SearchView}
use Rattle.index_changes.specs.Index.{Index}

-- the one that the call names, else the one of the settings, where there is one
abbrev pub distinct_attribute_in : Index → SearchView → Option (List ℕ)
distinct_attribute_in index call = option_or call.distinct index.settings.distinct_attribute

-- the values of a document under an attribute: those of its leaves at the path of this name
abbrev pub values_under : List ℕ → Data → List FacetValue
values_under attribute document =
    map (λ leaf. leaf.value) (leaves_of_path 0 (found_at attribute (walk document)))

-- the texts as which they are compared, so that 5 and "5" are one value
abbrev pub texts_under : List ℕ → Data → List (List ℕ)
texts_under attribute document = map text_of (values_under attribute document)

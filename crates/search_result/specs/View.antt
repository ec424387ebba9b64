-- What contracts see of what a search found.
use Rattle.std.specs.Prelude.{ℕ, List, map, Option}
use Rattle.std.specs.Option.{option_map}
use Rattle.serde_json.specs.Data.{Data}
use Rattle.search_base.specs.declared.cost_key.CostKey.{CostKey}
use Rattle.facet_counts.specs.FacetView.{FacetView}
use Rattle.search_result.specs.declared.Hit.{Hit}
use Rattle.search_result.specs.declared.SearchResult.{SearchResult}

-- a document that is found, and the costs by which it stands where it stands, where they are asked for
pub record HitView : Type 0 where
  pub document : Data
  pub costs : Option (List CostKey)

-- the hits, the number of matches, and the counts where they are asked for
pub record Found : Type 0 where
  pub hits : List HitView
  pub total : ℕ
  pub facets : Option (List FacetView)

abbrev pub hit_view : Hit → HitView
hit_view hit = record { document = hit.document.now; costs = option_map (λ costs. costs.items) hit.costs }

abbrev pub found_view : SearchResult → Found
found_view result = record {
  hits = map hit_view result.hits.items;
  total = result.total;
  facets = option_map (λ facets. facets.items) result.facets;
}

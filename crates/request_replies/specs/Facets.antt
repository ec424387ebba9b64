-- The counts of values as JSON. Attributes and spellings stand in the order of their bytes, and of two that are the
-- same the last counts.
use Rattle.std.specs.Prelude.{ℕ, ℤ, List, [], ◌∷◌, Option, Some, None, codes, fold}
use Rattle.serde_json.specs.Data.{Data, number, unsigned, object, Members, no_members, member, put}
use Rattle.facet_counts.specs.declared.rows.CountRow.{CountRow}
use Rattle.facet_counts.specs.FacetView.{FacetView}
use Rattle.search_replies.specs.Costs.{whole}

-- ---- how many documents have each value

-- a value has the name by which it is spelled
abbrev pub with_row : Members → CountRow → Members
with_row ms row = put row.shown (number (unsigned row.count)) ms

abbrev pub counts_data : List CountRow → Data
counts_data rows = object (fold with_row no_members rows)

abbrev pub with_counts : Members → FacetView → Members
with_counts ms facet = put facet.attribute (counts_data facet.rows) ms

-- a member for each attribute
abbrev pub distribution_data : List FacetView → Data
distribution_data facets = object (fold with_counts no_members facets)

-- ---- the least and the greatest number

abbrev pub ends_data : ℤ × ℤ → Data
ends_data ends =
    object (member (codes "max") (number (whole ends.1)) (member (codes "min") (number (whole ends.0)) no_members))

abbrev pub with_ends : List ℕ → Option (ℤ × ℤ) → Members → Members
with_ends attribute None ms = ms
with_ends attribute (Some ends) ms = put attribute (ends_data ends) ms

abbrev pub with_stats : Members → FacetView → Members
with_stats ms facet = with_ends facet.attribute facet.stats ms

-- a member for each attribute that has numbers
abbrev pub stats_data : List FacetView → Data
stats_data facets = object (fold with_stats no_members facets)

-- ---- both

-- two members before others, where the counts are asked for
abbrev pub facet_members : Option (List FacetView) → Members → Members
facet_members None ms = ms
facet_members (Some facets) ms =
    member (codes "facetDistribution") (distribution_data facets)
    (member (codes "facetStats") (stats_data facets) ms)

-- ---- as the code does it

-- least and greatest numbers by attributes
abbrev pub ends_members : List (List ℕ × (ℤ × ℤ)) → Members
ends_members [] = no_members
ends_members (entry ∷ entries) = member entry.0 (ends_data entry.1) (ends_members entries)

-- The facet search that a body asks for. Its members are tried one after the other, and then read.
use Rattle.std.specs.Prelude.{ℕ, List, [], ◌∷◌, Bool, true, false, ◌||◌, codes, Option, Some, None, is_some, option_and_then, unwrap_or, Result, Ok, Err, if◌then◌else◌}
use Rattle.std.specs.Str.{bytes_eq}
use Rattle.serde_json.specs.Data.{Data, object, Members}
use Rattle.serde_json.specs.Find.{get, as_null, as_str}
use Rattle.search_base.specs.Trying.{◌>>=◌, or_refuse}
use Rattle.search_base.specs.declared.query.Strategy.TheVariants as strategy
use Rattle.filter_tree.specs.Tree as tree
use Rattle.filter_tree.specs.Tree.{Tree}
use Rattle.search_call.specs.SearchView.{FacetCallView}
use Rattle.request_refusals.specs.Members.{member_named}
use Rattle.request_refusals.specs.declared.refusal.Refusal.{Refusal}
use Rattle.request_refusals.specs.declared.refusal.Refusal.TheVariants.{Unknown, MissingFacetName, InvalidFacetName, InvalidFacetQuery}
use Rattle.request_refusals.specs.declared.member.SearchMember.{SearchMember}
use Rattle.request_refusals.specs.declared.member.SearchMember.TheVariants.{Query, Filter, MatchingStrategy}
use Rattle.search_bodies.specs.Json.{json_in, members_of, text_at}
use Rattle.search_bodies.specs.Values.{said, strategy_in}
use Rattle.search_bodies.specs.Searches.{Given, given_by, member_tried}

-- ---- the members are tried one after the other, and the filter among them is kept

-- a search has these members too
abbrev pub is_shared : Option SearchMember → Bool
is_shared (Some Query) = true
is_shared (Some Filter) = true
is_shared (Some MatchingStrategy) = true
is_shared _ = false

abbrev pub shared_tried : Given → Tree → Result Tree Refusal
shared_tried given filter =
    if is_shared (member_named given.0) then member_tried given filter else Err (Unknown given.0)

-- the name is a text, and what the values begin with is a text or null
abbrev pub facet_member_tried : Given → Tree → Result Tree Refusal
facet_member_tried given filter =
    if bytes_eq given.0 (codes "facetName") then
    (if is_some (as_str given.1) then Ok filter else Err InvalidFacetName)
    else (if bytes_eq given.0 (codes "facetQuery") then
    (if is_some (as_str given.1) || is_some (as_null given.1) then Ok filter else Err InvalidFacetQuery)
    else shared_tried given filter)

-- the first that is refused refuses all
abbrev pub facet_tried : List Given → Tree → Result Tree Refusal
facet_tried [] filter = Ok filter
facet_tried (given ∷ more) filter = facet_member_tried given filter >>= facet_tried more

-- ---- what they ask for

-- the search of a facet of this name that the members of an object ask for, with its filter
abbrev pub facet_call : List ℕ → Tree → Data → FacetCallView
facet_call name filter d = record {
  name = name;
  query = option_and_then as_str (get (codes "facetQuery") d);
  q = unwrap_or (said as_str Query d) [];
  filter = filter;
  strategy = unwrap_or (said strategy_in MatchingStrategy d) strategy.Last;
}

abbrev pub facets_from_members : Members → Result FacetCallView Refusal
facets_from_members ms = do
  filter ← facet_tried (given_by ms) tree.all
  name ← or_refuse MissingFacetName (text_at (codes "facetName") ms)
  Ok (facet_call name filter (object ms))

abbrev pub facets_from : Data → Result FacetCallView Refusal
facets_from d = members_of d >>= facets_from_members

-- the facet search that a body asks for
abbrev pub facets_of : List ℕ → Result FacetCallView Refusal
facets_of body = json_in body >>= facets_from

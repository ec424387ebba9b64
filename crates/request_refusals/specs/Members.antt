-- The table of the members of a search.
use Rattle.std.specs.Prelude.{ℕ, List, [], ◌∷◌, codes, Option, Some, None, if◌then◌else◌}
use Rattle.std.specs.Str.{bytes_eq}
use Rattle.request_refusals.specs.declared.member.SearchMember.{SearchMember}
use Rattle.request_refusals.specs.declared.member.SearchMember.TheVariants.{Query, Offset, Limit, Page, HitsPerPage, Filter, Facets, Sort, AttributesToRetrieve, MatchingStrategy, ShowCosts, AttributesToHighlight, AttributesToCrop, CropLength, CropMarker, HighlightPreTag, HighlightPostTag, ShowMatchesPosition, Distinct}
use Rattle.request_refusals.specs.declared.member.Shape.{Shape}
use Rattle.request_refusals.specs.declared.member.Shape.TheVariants as shape
use Rattle.request_refusals.specs.declared.member.MemberRow.{MemberRow}
use Rattle.request_refusals.specs.declared.member.TheConstants.{MEMBERS}

-- a member's name, the code of the refusal of a value that it does not have, and what its value is
pub record Row : Type 0 where
  pub name : List ℕ
  pub code : List ℕ
  pub shape : Shape

abbrev pub row : List ℕ → List ℕ → Shape → Row
row name code shape = record { name = name; code = code; shape = shape }

unfoldable pub row_of : SearchMember → Row
row_of Query = row (codes "q") (codes "invalid_search_q") shape.Text
row_of Offset = row (codes "offset") (codes "invalid_search_offset") shape.Count
row_of Limit = row (codes "limit") (codes "invalid_search_limit") shape.Count
row_of Page = row (codes "page") (codes "invalid_search_page") shape.Count
row_of HitsPerPage = row (codes "hitsPerPage") (codes "invalid_search_hits_per_page") shape.Count
row_of Filter = row (codes "filter") (codes "invalid_search_filter") shape.Filter
row_of Facets = row (codes "facets") (codes "invalid_search_facets") shape.Names
row_of Sort = row (codes "sort") (codes "invalid_search_sort") shape.Criteria
row_of AttributesToRetrieve =
    row (codes "attributesToRetrieve") (codes "invalid_search_attributes_to_retrieve") shape.Names
row_of MatchingStrategy = row (codes "matchingStrategy") (codes "invalid_search_matching_strategy") shape.Strategy
row_of ShowCosts = row (codes "showCosts") (codes "invalid_search_show_costs") shape.Flag
row_of AttributesToHighlight =
    row (codes "attributesToHighlight") (codes "invalid_search_attributes_to_highlight") shape.Names
row_of AttributesToCrop = row (codes "attributesToCrop") (codes "invalid_search_attributes_to_crop") shape.Names
row_of CropLength = row (codes "cropLength") (codes "invalid_search_crop_length") shape.Count
row_of CropMarker = row (codes "cropMarker") (codes "invalid_search_crop_marker") shape.Text
row_of HighlightPreTag = row (codes "highlightPreTag") (codes "invalid_search_highlight_pre_tag") shape.Text
row_of HighlightPostTag = row (codes "highlightPostTag") (codes "invalid_search_highlight_post_tag") shape.Text
row_of ShowMatchesPosition =
    row (codes "showMatchesPosition") (codes "invalid_search_show_matches_position") shape.Flag
row_of Distinct = row (codes "distinct") (codes "invalid_search_distinct") shape.Text

abbrev pub first_named : List ℕ → List SearchMember → Option SearchMember
first_named name [] = None
first_named name (m ∷ ms) = if bytes_eq name (row_of m).name then Some m else first_named name ms

-- the member of a name, where a search has one
abbrev pub member_named : List ℕ → Option SearchMember
member_named name = first_named name MEMBERS

abbrev pub row_view : MemberRow → Row
row_view held = record { name = held.name.now; code = held.code.now; shape = held.shape }

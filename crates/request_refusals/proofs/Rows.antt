-- What holds of each row of the table of members, by computation.
use Rattle.std.proofs.Common.{◌≡◌, ◌++◌, codes, Some, refl}
use Rattle.request_refusals.specs.declared.member.SearchMember.{SearchMember}
use Rattle.request_refusals.specs.declared.member.SearchMember.TheVariants.{Query, Offset, Limit, Page, HitsPerPage, Filter, Facets, Sort, AttributesToRetrieve, MatchingStrategy, ShowCosts, AttributesToHighlight, AttributesToCrop, CropLength, CropMarker, HighlightPreTag, HighlightPostTag, ShowMatchesPosition, Distinct}
use Rattle.request_refusals.specs.Members.{row_of, member_named}
use Rattle.request_refusals.specs.Laws.{snake}

pub found : (m : SearchMember) → member_named (row_of m).name ≡ Some m
unfolding row_of
found Query = refl
found Offset = refl
found Limit = refl
found Page = refl
found HitsPerPage = refl
found Filter = refl
found Facets = refl
found Sort = refl
found AttributesToRetrieve = refl
found MatchingStrategy = refl
found ShowCosts = refl
found AttributesToHighlight = refl
found AttributesToCrop = refl
found CropLength = refl
found CropMarker = refl
found HighlightPreTag = refl
found HighlightPostTag = refl
found ShowMatchesPosition = refl
found Distinct = refl

pub code : (m : SearchMember) → (row_of m).code ≡ codes "invalid_search_" ++ snake (row_of m).name
unfolding row_of
code Query = refl
code Offset = refl
code Limit = refl
code Page = refl
code HitsPerPage = refl
code Filter = refl
code Facets = refl
code Sort = refl
code AttributesToRetrieve = refl
code MatchingStrategy = refl
code ShowCosts = refl
code AttributesToHighlight = refl
code AttributesToCrop = refl
code CropLength = refl
code CropMarker = refl
code HighlightPreTag = refl
code HighlightPostTag = refl
code ShowMatchesPosition = refl
code Distinct = refl

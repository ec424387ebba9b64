-- How the hits of a search show their texts, as the members of an object ask for it.
use Rattle.std.specs.Prelude.{ℕ, List, [], ◌∷◌, length, map, nat_le, false, codes, Option, None, option_map, option_and_then, unwrap_or, if◌then◌else◌}
use Rattle.std.specs.Path.{rsplit_once}
use Rattle.serde_json.specs.Data.{Data}
use Rattle.serde_json.specs.Find.{as_bool, as_str}
use Rattle.search_call.specs.declared.CropRow.{CropRow}
use Rattle.search_call.specs.FormatView.{FormatView}
use Rattle.request_refusals.specs.declared.member.SearchMember.TheVariants.{AttributesToHighlight, AttributesToCrop, CropLength, CropMarker, HighlightPreTag, HighlightPostTag, ShowMatchesPosition}
use Rattle.request_routes.specs.Query.{number_of}
use Rattle.search_bodies.specs.Values.{count_in, names_in, said}

-- the length that 1 to 18 digits write
abbrev pub own_length : List ℕ → Option ℕ
own_length digits = if nat_le (length digits) 18 then number_of digits else None

-- an attribute, and the length that stands behind the colon
abbrev pub row_of_parts : List ℕ × List ℕ → Option CropRow
row_of_parts parts = option_map (λ n. record { attribute = parts.0; length = n }) (own_length parts.1)

-- an entry of the list: an attribute and its own length, parted by the last colon (58), or else a whole name
abbrev pub crop_row : ℕ → List ℕ → CropRow
crop_row default entry =
    unwrap_or (option_and_then row_of_parts (rsplit_once 58 entry)) (record { attribute = entry; length = default })

-- the members that are cropped: to 10 words, where neither the entry nor the object says another length
abbrev pub crop_in : Data → Option (List CropRow)
crop_in d = option_map (map (crop_row (unwrap_or (said count_in CropLength d) 10))) (said names_in AttributesToCrop d)

-- `…` in UTF-8
abbrev pub ellipsis : List ℕ
ellipsis = 226 ∷ 128 ∷ 166 ∷ []

abbrev pub formats_in : Data → FormatView
formats_in d = record {
  highlight = said names_in AttributesToHighlight d;
  crop = crop_in d;
  marker = unwrap_or (said as_str CropMarker d) ellipsis;
  pre = unwrap_or (said as_str HighlightPreTag d) (codes "<em>");
  post = unwrap_or (said as_str HighlightPostTag d) (codes "</em>");
  positions = unwrap_or (said as_bool ShowMatchesPosition d) false;
}

-- The members of a hit with their texts as the search shows them.
use Rattle.std.specs.Prelude.{ℕ, List, [], ◌∷◌, Bool, false, ◌||◌, codes, bytes_eq, is_some, Option, Some, None, if◌then◌else◌}
use Rattle.serde_json.specs.Data.{Data, null, boolean, number, string, array, object, Items, no_items, item, Members, no_members, member}
use Rattle.search_base.specs.TermView.{TermView}
use Rattle.search_call.specs.declared.CropRow.{CropRow}
use Rattle.search_call.specs.FormatView.{FormatView}
use Rattle.hit_format.specs.declared.asked.Format.{Format}
use Rattle.hit_format.specs.Formats.{format}
use Rattle.search_replies.specs.Members.{is_shown}

-- whether a list of names, where there is one, names a member
abbrev pub is_named : Option (List (List ℕ)) → List ℕ → Bool
is_named None name = false
is_named (Some names) name = is_shown names name

-- the length of the first row that names a member; `*` names all
abbrev pub length_for : List CropRow → List ℕ → Option ℕ
length_for [] name = None
length_for (row ∷ rows) name =
    if bytes_eq row.attribute (codes "*") || bytes_eq row.attribute name then Some row.length else length_for rows name

abbrev pub crop_for : Option (List CropRow) → List ℕ → Option ℕ
crop_for None name = None
crop_for (Some rows) name = length_for rows name

-- how the texts of a member are shown
abbrev pub format_with : FormatView → Bool → Option ℕ → Format
format_with formats highlight crop = record {
  highlight = highlight;
  pre = formats.pre;
  post = formats.post;
  crop = crop;
  marker = formats.marker;
}

-- the same, where one of the two lists names the member
abbrev pub format_if : FormatView → Bool → Option ℕ → Option Format
format_if formats highlight crop =
    if highlight || is_some crop then Some (format_with formats highlight crop) else None

abbrev pub format_for : FormatView → List ℕ → Option Format
format_for formats name = format_if formats (is_named formats.highlight name) (crop_for formats.crop name)

module _ (terms : List TermView) where
  -- a value with each text in it, at any depth, as it is shown; names of members stay
  abbrev mutual
    pub with_texts : Format → Data → Data
    with_texts how null = null
    with_texts how (boolean b) = boolean b
    with_texts how (number n) = number n
    with_texts how (string text) = string (format text terms how)
    with_texts how (array ds) = array (items_with_texts how ds)
    with_texts how (object ms) = object (members_with_texts how ms)

    pub items_with_texts : Format → Items → Items
    items_with_texts how no_items = no_items
    items_with_texts how (item d ds) = item (with_texts how d) (items_with_texts how ds)

    pub members_with_texts : Format → Members → Members
    members_with_texts how no_members = no_members
    members_with_texts how (member name d ms) = member name (with_texts how d) (members_with_texts how ms)

  -- a member that no list names stays as it is
  abbrev pub formatted : Option Format → Data → Data
  formatted None d = d
  formatted (Some how) d = with_texts how d

  abbrev pub formatted_members : FormatView → Members → Members
  formatted_members formats no_members = no_members
  formatted_members formats (member name d ms) =
      member name (formatted (format_for formats name) d) (formatted_members formats ms)

  abbrev pub formatted_data : FormatView → Members → Data
  formatted_data formats ms = object (formatted_members formats ms)

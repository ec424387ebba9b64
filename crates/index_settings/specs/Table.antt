-- The members of the settings: the shape and the default of each, and what is wrong with a patch.
use Rattle.std.specs.Prelude.{ℕ, List, [], ◌∷◌, ◌++◌, Bool, ◌||◌, is_some, if◌then◌else◌, codes, Option, Some, None}
use Rattle.std.specs.Str.{bytes_eq}
use Rattle.serde_json.specs.Data.{Data, null, boolean, number, string, array, object, Members, no_members, member}
use Rattle.serde_json.specs.Find.{as_str}
use Rattle.search_base.specs.Trying.{first_of}
use Rattle.index_settings.specs.declared.shape.Shape.{Shape}
use Rattle.index_settings.specs.declared.shape.Shape.TheVariants as shape
use Rattle.index_settings.specs.declared.fault.SettingsRefusal.{SettingsRefusal}
use Rattle.index_settings.specs.declared.fault.SettingsRefusal.TheVariants.{UnknownMember, WrongShape}
use Rattle.index_settings.specs.View.{SettingsView}
use Rattle.index_settings.specs.Values.{is_null, is_number_up_to, are_texts, are_texts_up_to, texts_in, are_synonyms}
use Rattle.index_settings.specs.Rules.{bad_rule}

-- the shape of each member
abbrev pub shape_of : List ℕ → Option Shape
shape_of name =
    if bytes_eq name (codes "displayedAttributes") then Some shape.Entries
    else if bytes_eq name (codes "distinctAttribute") then Some shape.Attribute
    else if bytes_eq name (codes "faceting") then Some shape.Faceting
    else if bytes_eq name (codes "filterableAttributes") then Some shape.Texts
    else if bytes_eq name (codes "pagination") then Some shape.Pagination
    else if bytes_eq name (codes "rankingRules") then Some shape.Rules
    else if bytes_eq name (codes "searchableAttributes") then Some shape.Entries
    else if bytes_eq name (codes "sortableAttributes") then Some shape.Texts
    else if bytes_eq name (codes "stopWords") then Some shape.Texts
    else if bytes_eq name (codes "synonyms") then Some shape.Synonyms
    else None

-- the default of each member
abbrev pub defaults : SettingsView
defaults = record {
  displayed_attributes = codes "*" ∷ [];
  distinct_attribute = None;
  filterable_attributes = [];
  max_total_hits = 1000;
  max_values_per_facet = 100;
  ranking_rules =
      codes "words" ∷ codes "typo" ∷ codes "proximity" ∷ codes "attribute" ∷ codes "sort" ∷ codes "exactness" ∷ [];
  searchable_attributes = codes "*" ∷ [];
  sortable_attributes = [];
  stop_words = [];
  synonyms = [];
}

-- ---- faults

abbrev pub wrong_unless : Bool → List ℕ → Option SettingsRefusal
wrong_unless right name = if right then None else Some (WrongShape name)

-- a member of `faceting` or `pagination`, which have one member each. A message names it with what it stands in
abbrev pub inner_fault : List ℕ → List ℕ → List ℕ → Data → Option SettingsRefusal
inner_fault outer inner name d =
    if bytes_eq name inner then wrong_unless (is_null d || is_number_up_to 1000000 d) (outer ++ 46 ∷ name)
    else Some (UnknownMember (outer ++ 46 ∷ name))

abbrev pub first_inner : List ℕ → List ℕ → Members → Option SettingsRefusal
first_inner outer inner no_members = None
first_inner outer inner (member name d ms) = first_of (inner_fault outer inner name d) (first_inner outer inner ms)

abbrev pub nested_fault : List ℕ → List ℕ → Data → Option SettingsRefusal
nested_fault outer inner null = Some (WrongShape outer)
nested_fault outer inner (boolean b) = Some (WrongShape outer)
nested_fault outer inner (number n) = Some (WrongShape outer)
nested_fault outer inner (string s) = Some (WrongShape outer)
nested_fault outer inner (array ds) = Some (WrongShape outer)
nested_fault outer inner (object ms) = first_inner outer inner ms

-- what is wrong with a value that is not null
abbrev pub shape_fault : Shape → List ℕ → Data → Option SettingsRefusal
shape_fault shape.Entries name d = wrong_unless (are_texts_up_to 65535 d) name
shape_fault shape.Texts name d = wrong_unless (are_texts d) name
shape_fault shape.Rules name d = if are_texts_up_to 32 d then bad_rule (texts_in d) else Some (WrongShape name)
shape_fault shape.Synonyms name d = wrong_unless (are_synonyms d) name
shape_fault shape.Attribute name d = wrong_unless (is_some (as_str d)) name
shape_fault shape.Faceting name d = nested_fault name (codes "maxValuesPerFacet") d
shape_fault shape.Pagination name d = nested_fault name (codes "maxTotalHits") d

abbrev pub fault_at : Option Shape → List ℕ → Data → Option SettingsRefusal
fault_at None name d = Some (UnknownMember name)
fault_at (Some shape) name d = if is_null d then None else shape_fault shape name d

-- what is wrong with a member
abbrev pub member_fault : List ℕ → Data → Option SettingsRefusal
member_fault name d = fault_at (shape_of name) name d

-- the fault of the first member that has one
abbrev pub first_fault : Members → Option SettingsRefusal
first_fault no_members = None
first_fault (member name d ms) = first_of (member_fault name d) (first_fault ms)

-- what is wrong with a patch
abbrev pub patch_fault : Data → Option SettingsRefusal
patch_fault null = Some (WrongShape [])
patch_fault (boolean b) = Some (WrongShape [])
patch_fault (number n) = Some (WrongShape [])
patch_fault (string s) = Some (WrongShape [])
patch_fault (array ds) = Some (WrongShape [])
patch_fault (object ms) = first_fault ms

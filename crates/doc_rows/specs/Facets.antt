-- The leaves and marks of a path by which documents are filtered, sorted or counted.
use Rattle.std.specs.Prelude.{ℕ, Bool, true, false, List, [], ◌∷◌, ◌++◌, if◌then◌else◌}
use Rattle.std.specs.Option.{option_map}
use Rattle.std.specs.List.{filter_map, list_any}
use Rattle.search_base.specs.declared.document.Leaf.{Leaf}
use Rattle.search_base.specs.declared.document.Mark.{Mark}
use Rattle.search_base.specs.declared.document.MarkKind.{MarkKind}
use Rattle.search_base.specs.declared.document.MarkKind.TheVariants.{Exists, Null, Empty}
use Rattle.search_base.specs.declared.value.FacetValue.{FacetValue}
use Rattle.search_base.specs.declared.value.FacetValue.TheVariants as facet
use Rattle.doc_values.specs.declared.rows.Flat.{Flat}
use Rattle.doc_values.specs.declared.rows.Flat.TheVariants as flat
use Rattle.token_words.specs.Normal.{normal}
use Rattle.doc_rows.specs.Texts.{leaf_text}

-- what a leaf that is spelled so is compared as: its number, or the normal form of its text
abbrev pub value_of : Flat → List ℕ → FacetValue
value_of (flat.Number z) shown = facet.Number z
value_of (flat.Text text) shown = facet.Text (normal shown)
value_of (flat.Bool b) shown = facet.Text (normal shown)
value_of (flat.Mark kind) shown = facet.Text (normal shown)

-- a leaf of the path with this number
abbrev pub leaf_at : ℕ → Flat → List ℕ → Leaf
leaf_at number value shown = record { path = record { 0 = number }; value = value_of value shown; shown = shown }

-- the leaves of the path with this number, among its values
abbrev pub leaves_of_path : ℕ → List Flat → List Leaf
leaves_of_path number values = filter_map (λ value. option_map (leaf_at number value) (leaf_text value)) values

-- the value is this mark
abbrev pub is_mark : MarkKind → Flat → Bool
is_mark Exists (flat.Mark Exists) = true
is_mark Null (flat.Mark Null) = true
is_mark Empty (flat.Mark Empty) = true
is_mark _ _ = false

abbrev pub has_mark : MarkKind → List Flat → Bool
has_mark kind values = list_any (is_mark kind) values

-- the mark, where it is among the values
abbrev pub mark_if : ℕ → MarkKind → List Flat → List Mark
mark_if number kind values =
    if has_mark kind values then record { path = record { 0 = number }; kind = kind } ∷ [] else []

-- the marks of the path with this number that are among its values, each once
abbrev pub marks_of_path : ℕ → List Flat → List Mark
marks_of_path number values =
    mark_if number Exists values ++ (mark_if number Null values ++ mark_if number Empty values)

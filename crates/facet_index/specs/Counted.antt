-- The texts as which a document's values are counted, and how the first leaf of each is spelled.
use Rattle.std.specs.Prelude.{◌≡◌, ℕ, ◌==◌, ◌&&◌, Bool, not, bytes_eq, List, [], ◌∷◌, ◌++◌, if◌then◌else◌}
use Rattle.std.specs.BTreeSet.{BTreeSet, contains}
use Rattle.std.specs.List.{filter, list_any}
use Rattle.search_base.specs.declared.document.Leaf.{Leaf}
use Rattle.search_base.specs.SortKeys.{leaves_under}
use Rattle.facet_counts.specs.Counts.{text_of, is_of, first_shown}
use Rattle.facet_keys.specs.Keys.{Facet, counted, spelling, key_bytes, IsNarrow}
use Rattle.postings.specs.Dictionary.{word_cmp}

-- whether a leaf stands under the path and is counted as the text
abbrev pub is_counted : ℕ → List ℕ → Leaf → Bool
is_counted path text leaf = (leaf.path.0 == path) && is_of text leaf

abbrev pub has_text : ℕ → List ℕ → List Leaf → Bool
has_text path text leaves = list_any (is_counted path text) leaves

-- the first spelling of a text under a path, which is another than the text
abbrev pub is_spelled : ℕ → List ℕ → List ℕ → List Leaf → Bool
is_spelled path text shown leaves = has_text path text leaves
    && (bytes_eq (first_shown (filter (is_of text) (leaves_under path leaves))) shown && not (bytes_eq shown text))

-- a spelling, unless it is the text itself
abbrev pub if_other : ℕ → List ℕ → List ℕ → List (ℕ × Facet)
if_other path text shown = if bytes_eq shown text then [] else (path, spelling text shown) ∷ []

-- the facets of a leaf for its count, unless a leaf before it is counted as the same text
abbrev pub new_counted : List Leaf → Leaf → List (ℕ × Facet)
new_counted before leaf = if has_text leaf.path.0 (text_of leaf.value) before then []
    else (leaf.path.0, counted (text_of leaf.value)) ∷ if_other leaf.path.0 (text_of leaf.value) leaf.shown

-- those of leaves that stand behind others
abbrev pub counted_from : List Leaf → List Leaf → List (ℕ × Facet)
counted_from before [] = []
counted_from before (leaf ∷ leaves) = new_counted before leaf ++ counted_from (before ++ leaf ∷ []) leaves

abbrev pub counted_of : List Leaf → List (ℕ × Facet)
counted_of leaves = counted_from [] leaves

-- the keys of the texts of these leaves, and of no other text
abbrev pub HasSeen : BTreeSet (List ℕ) → List Leaf → Type 0
HasSeen seen leaves = (path : ℕ) (text : List ℕ) → IsNarrow path (counted text)
    → contains word_cmp seen (key_bytes path (counted text)) ≡ has_text path text leaves

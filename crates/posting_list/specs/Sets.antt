-- The documents of words with long lists, as sets.
use Rattle.std.specs.Prelude.{◌≡◌, ℕ, ◌/◌, ◌%◌, ◌^◌, ◌==◌, ◌≤◌, nat_le, not, ◌&&◌, ◌||◌, Bool, true, List}
use Rattle.std.specs.Prelude.{Option, None, Some, Box, Vec, ⊤}
use Rattle.std.specs.declared.alloc.Global.{Global}
use Rattle.std.specs.Bool.{OnTrue}
use Rattle.std.specs.List.{list_any, AllByRecursion}
use Rattle.doc_sets.specs.Sets.{has}
use Rattle.sorted_pages.specs.Entries.{has as has_entry}
use Rattle.posting_list.specs.declared.part.Part.{Part}
use Rattle.posting_list.specs.declared.part.Part.TheVariants.{All, First, Path, Start, Later}
use Rattle.posting_list.specs.declared.documents.KeptSet.{KeptSet}

-- whether one of the entries is of the document
abbrev pub has_document : List ℕ → ℕ → Bool
has_document entries id = list_any (λ entry. entry / 2 ^ 32 == id) entries

-- these are exactly the documents of the entries
abbrev pub IsSetOf : List ℕ → List ℕ → Type 0
IsSetOf ids entries = (id : ℕ) → has ids id ≡ has_document entries id

-- the path of an entry
abbrev pub path_of : ℕ → ℕ
path_of entry = entry / 2 ^ 16 % 2 ^ 16

-- its position in the path
abbrev pub position_of : ℕ → ℕ
position_of entry = entry % 2 ^ 16

-- the entry is at the beginning of its path
abbrev pub is_first : ℕ → Bool
is_first entry = position_of entry == 0

-- the entry is at the beginning of this path
abbrev pub is_start : ℕ → ℕ → Bool
is_start path entry = (path_of entry == path) && is_first entry

-- whether one of the entries that pass a test is of the document
abbrev pub has_passing : (ℕ → Bool) → List ℕ → ℕ → Bool
has_passing passes entries id = list_any (λ entry. (entry / 2 ^ 32 == id) && passes entry) entries

-- these are exactly the documents of the entries that pass
abbrev pub IsSetOfPassing : (ℕ → Bool) → List ℕ → List ℕ → Type 0
IsSetOfPassing passes ids entries = (id : ℕ) → has ids id ≡ has_passing passes entries id

-- the entries of a part of a list
abbrev pub is_part : Part → ℕ → Bool
is_part All entry = true
is_part First entry = is_first entry
is_part (Path path) entry = path_of entry == path
is_part (Start path) entry = is_start path entry
is_part Later entry = nat_le 8 (path_of entry)

-- the path of an entry is between two, and it is at the beginning of its path at most where that is said
abbrev pub IsWithin : ℕ → ℕ → Bool → ℕ → Type 0
IsWithin least greatest first entry =
    (least ≤ path_of entry) × (path_of entry ≤ greatest) × OnTrue (is_first entry) (first ≡ true)

-- each of some sets has exactly the documents of its part
abbrev pub AreSetsOf : List KeptSet → List ℕ → Type 0
AreSetsOf sets entries = AllByRecursion (λ kept. IsSetOfPassing (is_part kept.part) kept.documents.ids entries) sets

-- the same for the sets of a list, if there are any
abbrev pub AreSetsIn : Option (Box (Vec KeptSet Global) Global) → List ℕ → Type 0
AreSetsIn None entries = ⊤
AreSetsIn (Some sets) entries = AreSetsOf sets.value.items entries

-- the entries are those of before, with what came and without what went
abbrev pub AreAfter : List ℕ → List ℕ → List ℕ → List ℕ → Type 0
AreAfter gone come old new = (entry : ℕ) →
    has_entry new entry ≡ ((has_entry come entry || has_entry old entry) && not (has_entry gone entry))

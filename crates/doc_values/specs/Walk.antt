-- The walk of a document, and what is read off it: its paths, its first number that is not whole, and the second mark
-- of a value.
use Rattle.std.specs.Prelude.{ℕ, ℤ, pos, List, [], ◌∷◌, ◌++◌, map, Bool, false, ◌||◌, if◌then◌else◌, Option, Some, None, Result, Ok, Err, get_or}
use Rattle.std.specs.Option.{option_map}
use Rattle.serde_json.specs.Data.{Num, unsigned, negative, float, Data, null, boolean, number, string, array, object, Items, no_items, item, Members, no_members, member}
use Rattle.serde_json.specs.Find.{is_float}
use Rattle.search_base.specs.declared.document.MarkKind.{MarkKind}
use Rattle.search_base.specs.declared.document.MarkKind.TheVariants.{Null, Empty}
use Rattle.search_base.specs.Trying.{◌>>◌}
use Rattle.doc_values.specs.declared.document.DocumentRefusal.{DocumentRefusal}
use Rattle.doc_values.specs.declared.document.DocumentRefusal.TheVariants.{NotObject, NumberNotWhole}

-- the path of a member: its name, or below a path the path, a dot and the name
abbrev pub path_of : Option (List ℕ) → List ℕ → List ℕ
path_of None name = name
path_of (Some above) name = above ++ 46 ∷ name

-- the members of a value; of one that is no object none
abbrev pub members_in : Data → Members
members_in null = no_members
members_in (boolean b) = no_members
members_in (number n) = no_members
members_in (string s) = no_members
members_in (array ds) = no_members
members_in (object ms) = ms

-- ---- the walk

-- a visited member
pub record Visit : Type 0 where
  pub path : List ℕ
  pub value : Data

-- Each member, and then the members inside its value: those of an object, and of the objects in an array, at any
-- nesting, under the array's path.
abbrev mutual
  pub walk_of_members : Option (List ℕ) → Members → List Visit
  walk_of_members above no_members = []
  walk_of_members above (member name d ms) =
      let path = path_of above name in
      record { path = path; value = d } ∷ (walk_inside path d ++ walk_of_members above ms)

  pub walk_inside : List ℕ → Data → List Visit
  walk_inside path null = []
  walk_inside path (boolean b) = []
  walk_inside path (number n) = []
  walk_inside path (string s) = []
  walk_inside path (array ds) = walk_inside_items path ds
  walk_inside path (object ms) = walk_of_members (Some path) ms

  pub walk_inside_items : List ℕ → Items → List Visit
  walk_inside_items path no_items = []
  walk_inside_items path (item d ds) = walk_inside path d ++ walk_inside_items path ds

abbrev pub walk : Data → List Visit
walk d = walk_of_members None (members_in d)

abbrev pub visited : List Visit → List (List ℕ)
visited visits = map (λ visit. visit.path) visits

-- the path of each visited member, in the order of the walk
abbrev pub paths_of : Data → List (List ℕ)
paths_of d = visited (walk d)

-- the path at a place among paths, which may be none
abbrev pub path_at : List (List ℕ) → Option ℕ → Option (List ℕ)
path_at paths place = option_map (λ place. get_or paths place []) place

-- ---- numbers that are not whole

-- whether a value holds a number that is not whole directly: through arrays, and not through objects
abbrev mutual
  pub holds_float : Data → Bool
  holds_float null = false
  holds_float (boolean b) = false
  holds_float (number n) = is_float n
  holds_float (string s) = false
  holds_float (array ds) = items_hold_float ds
  holds_float (object ms) = false

  pub items_hold_float : Items → Bool
  items_hold_float no_items = false
  items_hold_float (item d ds) = holds_float d || items_hold_float ds

-- the refusal of the first visited member whose value holds such a number
abbrev pub first_broken : List Visit → Option DocumentRefusal
first_broken [] = None
first_broken (visit ∷ later) = if holds_float visit.value then Some (NumberNotWhole visit.path) else first_broken later

-- the document that a value is
abbrev pub document_of : Data → Result Data DocumentRefusal
document_of null = Err NotObject
document_of (boolean b) = Err NotObject
document_of (number n) = Err NotObject
document_of (string s) = Err NotObject
document_of (array ds) = Err NotObject
document_of (object ms) = first_broken (walk_of_members None ms) >> Ok (object ms)

-- ---- what a value is at its path

-- the mark that holds of a value beside `Exists`
abbrev pub mark_of : Data → Option MarkKind
mark_of null = Some Null
mark_of (boolean b) = None
mark_of (number n) = None
mark_of (string []) = Some Empty
mark_of (string (x ∷ s)) = None
mark_of (array no_items) = Some Empty
mark_of (array (item d ds)) = None
mark_of (object no_members) = Some Empty
mark_of (object (member k d ms)) = None

-- a document holds whole numbers alone
abbrev pub whole_number : Num → ℤ
whole_number (unsigned n) = pos n
whole_number (negative z) = z
whole_number (float x) = pos 0

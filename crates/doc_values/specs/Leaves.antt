-- What a path holds, read off the walk.
use Rattle.std.specs.Prelude.{ℕ, List, [], ◌∷◌, ◌++◌, if◌then◌else◌, bytes_eq, Option, Some, None}
use Rattle.serde_json.specs.Data.{Data, null, boolean, number, string, array, object, Items, no_items, item}
use Rattle.search_base.specs.declared.document.MarkKind.{MarkKind}
use Rattle.search_base.specs.declared.document.MarkKind.TheVariants.{Exists}
use Rattle.doc_values.specs.declared.rows.Flat.{Flat}
use Rattle.doc_values.specs.declared.rows.Flat.TheVariants.{Text, Number, Bool as Truth, Mark}
use Rattle.doc_values.specs.Walk.{Visit, mark_of, whole_number}

-- the texts, numbers and truth values of a value, with arrays opened at any nesting; an object has none
abbrev mutual
  pub leaves_of : Data → List Flat
  leaves_of null = []
  leaves_of (boolean b) = Truth b ∷ []
  leaves_of (number n) = Number (whole_number n) ∷ []
  leaves_of (string s) = Text s ∷ []
  leaves_of (array ds) = leaves_of_items ds
  leaves_of (object ms) = []

  pub leaves_of_items : Items → List Flat
  leaves_of_items no_items = []
  leaves_of_items (item d ds) = leaves_of d ++ leaves_of_items ds

abbrev pub second_mark : Option MarkKind → List Flat
second_mark None = []
second_mark (Some kind) = Mark kind ∷ []

-- the marks that hold of a value
abbrev pub marks_of : Data → List Flat
marks_of d = Mark Exists ∷ second_mark (mark_of d)

-- what the values visited at a path are: of each in turn the marks that hold of it, and its leaves
abbrev pub found_at : List ℕ → List Visit → List Flat
found_at path [] = []
found_at path (visit ∷ later) =
    if bytes_eq path visit.path then marks_of visit.value ++ (leaves_of visit.value ++ found_at path later)
    else found_at path later

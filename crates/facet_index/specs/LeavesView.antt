-- What contracts see of a document in the facet index.
use Rattle.std.specs.Prelude.{ℕ, List, [], Option, Some, None}
use Rattle.search_base.specs.declared.document.Leaf.{Leaf}
use Rattle.search_base.specs.declared.document.Mark.{Mark}

-- its internal number, its leaves and its marks
pub record LeavesView : Type 0 where
  pub id : ℕ
  pub leaves : List Leaf
  pub marks : List Mark

abbrev pub leaves_at : ℕ → List Leaf → List Mark → LeavesView
leaves_at id leaves marks = record { id = id; leaves = leaves; marks = marks }

-- the leaves of a document, and none where it is not there
abbrev pub leaves_of : Option LeavesView → List Leaf
leaves_of None = []
leaves_of (Some document) = document.leaves

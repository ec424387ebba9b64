-- The indexes that the rows of an image give.
use Rattle.std.specs.Prelude.{ℕ, ◌+◌, List, [], ◌∷◌, length}
use Rattle.index_image.specs.Rows.{IndexData}
use Rattle.index_changes.specs.Index.{Index}
use Rattle.index_changes.specs.Images.{index_of}

abbrev pub entry_of : IndexData → List ℕ × Index
entry_of i = (i.uid, index_of i)

-- how many documents the rows have
abbrev pub documents_of : List IndexData → ℕ
documents_of [] = 0
documents_of (i ∷ is) = length i.documents + documents_of is

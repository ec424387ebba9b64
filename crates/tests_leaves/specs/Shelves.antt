-- The documents of a shelf, and what it has of them.
use Rattle.std.specs.Prelude.{ℕ, suc, Vec, List, [], ◌∷◌}
use Rattle.std.specs.Global.{Global}
use Rattle.search_base.specs.declared.document.Leaf.{Leaf}
use Rattle.postings.specs.Dictionary.{PostingsView}
use Rattle.facet_index.specs.LeavesView.{LeavesView, leaves_at}
use Rattle.facet_index.specs.Places.{IsIndexOf}
use Rattle.leaf_table.specs.Tables.{TableView, AreLeavesOf}

-- documents of these leaves, numbered on from a number, before others
abbrev pub put : ℕ → List LeavesView → List (Vec Leaf Global) → List LeavesView
put number others [] = others
put number others (leaves ∷ rest) = put (suc number) (leaves_at number leaves.items [] ∷ others) rest

abbrev pub numbered : List (Vec Leaf Global) → List LeavesView
numbered leaves = put 0 [] leaves

-- what contracts see of a shelf
pub record ShelfView : Type 0 where
  pub documents : List LeavesView

-- the index and the table are those of the documents
pub record IsShelf (facets : PostingsView) (table : TableView) (documents : List LeavesView) : Type 0 where
  pub index : IsIndexOf facets documents
  pub leaves : AreLeavesOf table documents

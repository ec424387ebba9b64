-- The terms by which texts are marked: those of the level that keeps every item.
use Rattle.std.specs.Prelude.{Contains, List, [], ◌∷◌, map, flat_map}
use Rattle.search_base.specs.declared.query.Block.{Block}
use Rattle.search_base.specs.GraphView.{LevelView, GraphView}
use Rattle.search_base.specs.Query.{Query}
use Rattle.search_base.specs.TermView.{TermView}

-- the terms of a reading
abbrev pub terms_read : List Block → List TermView
terms_read reading = map (λ block. block.term) reading

-- those of the readings of the first of some levels
abbrev pub terms_among : List (List (List Block)) → List TermView
terms_among [] = []
terms_among (all ∷ levels) = flat_map terms_read all

-- the terms of a query: those of all readings of its first level, none without a level
abbrev pub terms_under : Query → List TermView
terms_under query = terms_among query.levels

-- those of the blocks of the first of some levels
abbrev pub terms_placed : List LevelView → List TermView
terms_placed [] = []
terms_placed (level ∷ levels) = map (λ placed. placed.block.term) level.blocks

-- the terms of a graph: those of the blocks of its first level, none without a level
abbrev pub terms_of : GraphView → List TermView
terms_of graph = terms_placed graph.levels

-- both have the same terms, in whatever order and however often
pub record HaveSame (terms other : List TermView) : Type 0 where
  pub there : (term : TermView) → Contains terms term → Contains other term
  pub back : (term : TermView) → Contains other term → Contains terms term

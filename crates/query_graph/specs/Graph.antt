-- The graph of a query, and what it says of the query's readings.
use Rattle.std.specs.Prelude.{◌↔◌, Contains, ℕ, ◌+◌, List, [], ◌∷◌, ◌++◌, length, map, flat_map, take, min}
use Rattle.std.specs.List.{AllZip}
use Rattle.search_base.specs.declared.query.Block.{Block}
use Rattle.search_base.specs.declared.query.PlacedBlock.{PlacedBlock}
use Rattle.search_base.specs.GraphView.{LevelView}
use Rattle.search_base.specs.Hits.{numbers}
use Rattle.search_base.specs.Readings.{readings}
use Rattle.synonym_terms.specs.SynonymRowView.{SynonymRowView}
use Rattle.query_graph.specs.ItemView.{ItemView}
use Rattle.query_graph.specs.ItemReadings.{choices}

-- how many words are read together at the most
abbrev pub most_joined : ℕ
most_joined = 3

-- a block of n items that begins at this place
abbrev pub placed_at : ℕ → ℕ → Block → PlacedBlock
placed_at from n block = record { from = from; to = from + n; block = block }

-- the blocks of the first n items, placed
abbrev pub placed_choices : List SynonymRowView → ℕ → List ItemView → ℕ → List PlacedBlock
placed_choices rows from items n = map (placed_at from n) (choices rows (take n items))

-- the blocks that begin with the first of the items, which stands behind this place
abbrev pub blocks_at : List SynonymRowView → ℕ → List ItemView → List PlacedBlock
blocks_at rows from items = flat_map (placed_choices rows from items) (numbers 1 (min (length items) most_joined))

-- the blocks of the items, of which the first stands behind this place
abbrev pub blocks_from : List SynonymRowView → ℕ → List ItemView → List PlacedBlock
blocks_from rows from [] = []
blocks_from rows from (item ∷ items) = blocks_at rows from (item ∷ items) ++ blocks_from rows (from + 1) items

-- the level that keeps these items
abbrev pub level_of : List SynonymRowView → List ItemView → LevelView
level_of rows items = record { items = length items; blocks = blocks_from rows 0 items }

-- the paths of the level are these readings
abbrev pub HasReadings : LevelView → List (List Block) → Type 0
HasReadings level all = (reading : List Block) → Contains (readings level) reading ↔ Contains all reading

-- the paths of each level are the readings of the items that it keeps
abbrev pub HaveReadings : List LevelView → List (List (List Block)) → Type 0
HaveReadings graph_levels query_levels = AllZip HasReadings graph_levels query_levels

-- What the readings of some items are, in other words.
use Rattle.std.specs.Prelude.{◌≡◌, Contains, ◌<◌, ◌≤◌, List, length, flat_map}
use Rattle.std.specs.List.{AllZip}
use Rattle.search_base.specs.declared.query.Block.{Block}
use Rattle.synonym_terms.specs.SynonymRowView.{SynonymRowView}
use Rattle.query_graph.specs.ItemView.{ItemView}
use Rattle.query_graph.specs.ItemReadings.{choices}
use Rattle.query_graph.specs.Graph.{most_joined}

-- the part has one item or more, three at most, and the block is one of its blocks
pub record IsBlockOf (rows : List SynonymRowView) (part : List ItemView) (block : Block) : Type 0 where
  pub some : 0 < length part
  pub few : length part ≤ most_joined
  pub choice : Contains (choices rows part) block

-- the reading has a block for each of some parts, which are the items one behind the other
abbrev pub CutsItems : List SynonymRowView → List ItemView → List Block → Type 0
CutsItems rows items reading = (parts : List (List ItemView)) × (flat_map (λ part. part) parts ≡ items) × AllZip (IsBlockOf rows) parts reading

-- The costs of a hit as JSON.
use Rattle.std.specs.Prelude.{ℤ, pos, negsuc, List, map}
use Rattle.serde_json.specs.Data.{Num, unsigned, negative, Data, null, number, string, array}
use Rattle.serde_json.specs.View.{items_of}
use Rattle.search_base.specs.declared.cost_key.CostKey.{CostKey}
use Rattle.search_base.specs.declared.cost_key.CostKey.TheVariants as cost
use Rattle.search_base.specs.declared.cost_key.SortKey.{SortKey}
use Rattle.search_base.specs.declared.cost_key.SortKey.TheVariants as sort

abbrev pub whole : ℤ → Num
whole (pos n) = unsigned n
whole (negsuc n) = negative (negsuc n)

-- a number, the normal form of a text, or null where there is neither
abbrev pub key_data : SortKey → Data
key_data (sort.Number n) = number (whole n)
key_data (sort.Text text) = string text
key_data sort.Missing = null

abbrev pub cost_data : CostKey → Data
cost_data (cost.Number n) = number (unsigned n)
cost_data (cost.Up key) = key_data key
cost_data (cost.Down key) = key_data key

-- an entry for each ranking rule, in their order
abbrev pub costs_data : List CostKey → Data
costs_data costs = array (items_of (map cost_data costs))

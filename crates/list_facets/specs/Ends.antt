-- The least number, or the greatest one.
use Rattle.std.specs.Prelude.{ℤ, Bool, true, false, Option, Some, None}
use Rattle.search_base.specs.SortKeys.{is_less, is_greater}
use Rattle.search_base.specs.declared.cost_key.CostKey.{CostKey}
use Rattle.search_base.specs.declared.cost_key.CostKey.TheVariants as cost
use Rattle.search_base.specs.declared.cost_key.SortKey.{SortKey}
use Rattle.search_base.specs.declared.cost_key.SortKey.TheVariants as sort

-- ascending the lesser number comes first, and descending the greater one
abbrev pub comes_first : Bool → ℤ → ℤ → Bool
comes_first true m n = is_less m n
comes_first false m n = is_greater m n

abbrev pub key_number : SortKey → Option ℤ
key_number (sort.Number n) = Some n
key_number (sort.Text text) = None
key_number sort.Missing = None

-- the number of an entry, where it is one of a number
abbrev pub entry_number : CostKey → Option ℤ
entry_number (cost.Number n) = None
entry_number (cost.Up key) = key_number key
entry_number (cost.Down key) = key_number key

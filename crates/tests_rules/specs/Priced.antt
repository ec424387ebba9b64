-- Documents with the numbers at their places.
use Rattle.std.specs.Prelude.{ℕ, ℤ, Bool, true, false, List, map, slice_get, Option}
use Rattle.std.specs.Option.{option_map}
use Rattle.search_base.specs.declared.cost_key.CostKey.{CostKey}
use Rattle.search_base.specs.declared.cost_key.CostKey.TheVariants.{Up, Down}
use Rattle.search_base.specs.declared.cost_key.SortKey.TheVariants.{Missing}
use Rattle.sort_rule.specs.Numbers.{number_key}

abbrev pub priced_keys : Bool → List ℤ → List CostKey
priced_keys up numbers = map (number_key up) numbers

abbrev pub priced_key : Bool → List ℤ → ℕ → Option CostKey
priced_key up numbers d = option_map (number_key up) (slice_get numbers d)

abbrev pub priced_missing : Bool → CostKey
priced_missing true = Up Missing
priced_missing false = Down Missing

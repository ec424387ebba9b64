-- How many items a list of values is.
use Rattle.std.proofs.Common.{◌≡◌, List, [], ◌∷◌, length, suc, refl, ap}
use Rattle.serde_json.specs.Events.{items_len}
use Rattle.serde_json.specs.View.{items_view}
use Rattle.serde_json.specs.declared.value.Value.{Value}

pub items_len_of_view : (values : List Value) → items_len (items_view values) ≡ length values
items_len_of_view [] = refl
items_len_of_view (value ∷ values) = ap suc (items_len_of_view values)

use Rattle.std.proofs.Common.{◌≡◌, ◌++◌, drop}
use Rattle.serde_json.specs.View.{items_view}
use Rattle.index_settings.specs.Values.{item_texts}
use Rattle.index_settings.proofs.texts.texts_of_items.Given as goal

-- the texts so far and those that are left
abbrev pub invariant-loop-item : goal.invariant-loop-item
invariant-loop-item l = item_texts (items_view l.item-items) ≡ l.texts.items ++ item_texts (items_view (drop l.item-index l.item-items))

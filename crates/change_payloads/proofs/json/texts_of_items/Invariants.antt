use Rattle.std.proofs.Common.{◌≡◌, ◌++◌, drop, option_map}
use Rattle.serde_json.specs.View.{items_view}
use Rattle.change_payloads.specs.Fields.{item_texts}
use Rattle.change_payloads.proofs.json.texts_of_items.Given as goal

-- the texts so far and those that are left are the texts of all
abbrev pub invariant-loop-item : goal.invariant-loop-item
invariant-loop-item l =
    item_texts (items_view l.item-items) ≡ option_map (λ texts. l.texts.items ++ texts) (item_texts (items_view (drop l.item-index l.item-items)))

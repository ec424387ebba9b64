use Rattle.std.proofs.Common.{◌≡◌, drop}
use Rattle.serde_json.specs.View.{items_view}
use Rattle.index_settings.specs.Rules.{bad_rule}
use Rattle.index_settings.specs.Values.{item_texts}
use Rattle.index_settings.proofs.shape.check_rule_names.Given as goal

-- each text so far names a rule
abbrev pub invariant-loop-item : goal.invariant-loop-item
invariant-loop-item l = bad_rule (item_texts (items_view l.item-items)) ≡ bad_rule (item_texts (items_view (drop l.item-index l.item-items)))

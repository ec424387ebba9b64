use Rattle.std.proofs.Common.{◌≡◌, drop}
use Rattle.serde_json.specs.View.{items_view}
use Rattle.doc_values.specs.Walk.{items_hold_float}
use Rattle.doc_values.proofs.floats.+hold_float.Given as goal

-- the answer for all is the answer for those that are left
abbrev pub invariant-one_holds_float-loop-item : goal.invariant-one_holds_float-loop-item
invariant-one_holds_float-loop-item l =
    items_hold_float (items_view l.item-items) ≡ items_hold_float (items_view (drop l.item-index l.item-items))

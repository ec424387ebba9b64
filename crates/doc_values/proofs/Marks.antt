-- Which arrays and objects are empty.
use Rattle.std.proofs.Common.{◌≡◌, List, [], ◌∷◌, length, Some, None, String, Global, refl, arith}
use Rattle.serde_json.specs.Data.{array, object}
use Rattle.serde_json.specs.View.{items_view, members_view}
use Rattle.serde_json.specs.declared.value.Value.{Value}
use Rattle.search_base.specs.declared.MarkKind.TheVariants.{Empty}
use Rattle.doc_values.specs.Walk.{mark_of}

pub mark_of_some_items : (vs : List Value) → (length vs ≡ 0 → ⊥) → None ≡ mark_of (array (items_view vs))
mark_of_some_items [] some = absurd (some refl)
mark_of_some_items (v ∷ vs) some = refl

pub mark_of_no_members : (ms : List (String Global × Value)) → length ms ≡ 0 → Some Empty ≡ mark_of (object (members_view ms))
mark_of_no_members [] none = refl
mark_of_no_members (m ∷ ms) none = absurd (omega arith)

pub mark_of_some_members : (ms : List (String Global × Value)) → (length ms ≡ 0 → ⊥) → None ≡ mark_of (object (members_view ms))
mark_of_some_members [] some = absurd (some refl)
mark_of_some_members (m ∷ ms) some = refl

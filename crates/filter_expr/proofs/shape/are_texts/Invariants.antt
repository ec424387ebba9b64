use Rattle.std.proofs.Common.{◌≡◌, drop}
use Rattle.std.specs.Prelude.{is_some}
use Rattle.serde_json.specs.View.{items_view}
use Rattle.filter_expr.specs.Texts.{texts_in}
use Rattle.filter_expr.proofs.shape.are_texts.Given as goal

-- all have the shape where those that are left have it
abbrev pub invariant-loop-member : goal.invariant-loop-member
invariant-loop-member l = is_some (texts_in (items_view l.member-items)) ≡ is_some (texts_in (items_view (drop l.member-index l.member-items)))

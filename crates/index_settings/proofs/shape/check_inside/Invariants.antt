use Rattle.std.proofs.Common.{◌≡◌}
use Rattle.serde_json.specs.View.{members_view}
use Rattle.index_settings.specs.Table.{first_inner}
use Rattle.index_settings.proofs.shape.check_inside.Given as goal

-- no member so far has a fault
abbrev pub invariant-loop-name : goal.invariant-loop-name
invariant-loop-name l = first_inner l.outer l.inner (members_view l.initial.name-iterator) ≡ first_inner l.outer l.inner (members_view l.name-iterator)

use Rattle.std.proofs.Common.{◌≡◌}
use Rattle.serde_json.specs.View.{members_view}
use Rattle.search_bodies.specs.Multi.{other_member}
use Rattle.search_bodies.proofs.multi.try_names.Given as goal

-- the first other member of all is the first of those that are left
abbrev pub invariant-loop-name : goal.invariant-loop-name
invariant-loop-name l = other_member (members_view l.initial.name-iterator) ≡ other_member (members_view l.name-iterator)

use Rattle.std.proofs.Common.{◌≡◌}
use Rattle.serde_json.specs.View.{members_view}
use Rattle.request_calls.specs.Bodies.{index_members_fault}
use Rattle.request_calls.proofs.body.check_members.Given as goal

-- the first fault of all is the first of those that are left
abbrev pub invariant-loop-name : goal.invariant-loop-name
invariant-loop-name l = index_members_fault (members_view l.initial.name-iterator) ≡ index_members_fault (members_view l.name-iterator)

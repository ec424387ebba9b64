use Rattle.std.proofs.Common.{◌≡◌, ◌+◌, drop}
use Rattle.serde_json.specs.View.{items_view}
use Rattle.request_calls.specs.Bodies.{ids_from}
use Rattle.search_bodies.proofs.Listed.{after_these}
use Rattle.request_calls.proofs.body.ids_among.Given as goal

-- the ids so far, and then what is left, as it lies from the next place on
abbrev pub invariant-loop-before : goal.invariant-loop-before
invariant-loop-before l = ids_from 1 (items_view l.items) ≡ after_these l.ids.items (ids_from (l.before + 1) (items_view (drop l.before l.items)))

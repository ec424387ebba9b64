use Rattle.std.proofs.Common.{◌≡◌, ◌+◌, drop}
use Rattle.serde_json.specs.View.{items_view}
use Rattle.search_bodies.specs.Multi.{queries_from}
use Rattle.search_bodies.proofs.Listed.{after_these}
use Rattle.search_bodies.proofs.multi.read_queries.Given as goal

-- the searches so far, and then what is left, as it lies from the next place on
abbrev pub invariant-loop-before : goal.invariant-loop-before
invariant-loop-before l =
    queries_from 1 (items_view l.queries) ≡ after_these l.calls.items (queries_from (l.before + 1) (items_view (drop l.before l.queries)))

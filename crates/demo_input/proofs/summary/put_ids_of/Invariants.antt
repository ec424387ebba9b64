use Rattle.std.proofs.Common.{◌≡◌, ◌++◌, drop, string_bytes}
use Rattle.serde_json.specs.View.{items_view}
use Rattle.demo_input.specs.Summary.{ids_text}
use Rattle.demo_input.proofs.summary.put_ids_of.Given as goal

-- the text so far, with the ids of the hits that are left, is the text at first with all ids
abbrev pub invariant-loop-hit : goal.invariant-loop-hit
invariant-loop-hit l =
    string_bytes l.line ++ ids_text (items_view (drop l.hit-index l.hits)) ≡ string_bytes l.initial.line ++ ids_text (items_view l.hits)

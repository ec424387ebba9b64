use Rattle.std.proofs.Common.{◌≡◌, ◌++◌, drop, map, string_bytes, false}
use Rattle.serde_json.specs.View.{items_of}
use Rattle.serde_json.specs.Written.{items_text}
use Rattle.request_replies.specs.Replies.{facet_hit}
use Rattle.request_replies.proofs.several.put_facet_hits.Given as goal

-- the text so far, with the values that are left, is the text at first with all values
abbrev pub invariant-loop-row : goal.invariant-loop-row
invariant-loop-row l =
    string_bytes l.text ++ items_text l.later (items_of (map facet_hit (drop l.row-index l.rows)))
    ≡ string_bytes l.initial.text ++ items_text false (items_of (map facet_hit l.rows))

use Rattle.std.proofs.Common.{◌≡◌, ◌++◌, drop, map, string_bytes, false}
use Rattle.serde_json.specs.View.{items_of}
use Rattle.serde_json.specs.Written.{items_text}
use Rattle.search_result.specs.View.{hit_view}
use Rattle.search_replies.specs.Shown.{shown_by}
use Rattle.search_replies.proofs.shown.put_hits.Given as goal

-- the text so far, with the hits that are left, is the text at first with all hits
abbrev pub invariant-loop-hit : goal.invariant-loop-hit
invariant-loop-hit l =
    string_bytes l.text ++ items_text l.later (items_of (map (shown_by l.display) (map hit_view (drop l.hit-index l.hits))))
    ≡ string_bytes l.initial.text ++ items_text false (items_of (map (shown_by l.display) (map hit_view l.hits)))

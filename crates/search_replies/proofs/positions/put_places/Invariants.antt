use Rattle.std.proofs.Common.{◌≡◌, ◌++◌, drop, map, string_bytes, false}
use Rattle.serde_json.specs.View.{items_of}
use Rattle.serde_json.specs.Written.{items_text}
use Rattle.search_replies.specs.Positions.{place_data}
use Rattle.search_replies.proofs.positions.put_places.Given as goal

-- the text so far, with the places that are left, is the text at first with all places
abbrev pub invariant-loop-place : goal.invariant-loop-place
invariant-loop-place l =
    string_bytes l.text ++ items_text l.later (items_of (map place_data (drop l.place-index l.places)))
    ≡ string_bytes l.initial.text ++ items_text false (items_of (map place_data l.places))

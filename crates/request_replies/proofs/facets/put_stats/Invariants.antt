use Rattle.std.proofs.Common.{◌≡◌, ◌++◌, string_bytes, false}
use Rattle.serde_json.specs.Written.{members_text}
use Rattle.request_replies.specs.Facets.{ends_members}
use Rattle.request_replies.proofs.facets.put_stats.Given as goal

-- the text so far, with the attributes that are left, is the text at first with all attributes
abbrev pub invariant-loop-attribute : goal.invariant-loop-attribute
invariant-loop-attribute l =
    string_bytes l.text ++ members_text l.later (ends_members l.attribute-iterator)
    ≡ string_bytes l.initial.text ++ members_text false (ends_members l.initial.attribute-iterator)

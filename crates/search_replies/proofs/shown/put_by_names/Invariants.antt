use Rattle.std.proofs.Common.{◌≡◌, ◌++◌, drop, map, string_bytes, false}
use Rattle.serde_json.specs.View.{items_of}
use Rattle.serde_json.specs.Written.{items_text}
use Rattle.serde_json.specs.Data.{object}
use Rattle.doc_values.specs.Walk.{members_in}
use Rattle.search_replies.specs.Members.{members_by}
use Rattle.search_replies.specs.Names.{shows}
use Rattle.search_replies.proofs.shown.put_by_names.Given as goal

-- the text so far, with the documents that are left, is the text at first with all documents
abbrev pub invariant-loop-document : goal.invariant-loop-document
invariant-loop-document l =
    string_bytes l.text ++ items_text l.later (items_of (map (λ d. object (members_by (shows l.names) (members_in d))) (map (λ d. d.now) (drop l.document-index l.documents))))
    ≡ string_bytes l.initial.text ++ items_text false (items_of (map (λ d. object (members_by (shows l.names) (members_in d))) (map (λ d. d.now) l.documents)))

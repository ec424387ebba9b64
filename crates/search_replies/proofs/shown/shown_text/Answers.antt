use Rattle.std.proofs.Common.{◌++◌, ap, ◌∙◌}
use Rattle.serde_json.specs.Data.{object}
use Rattle.serde_json.specs.Written.{compact_text}
use Rattle.doc_values.specs.Walk.{members_in}
use Rattle.search_replies.specs.Names.{shows}
use Rattle.search_replies.specs.Members.{members_by}
use Rattle.search_replies.proofs.ShownLemmas.{shown_alike}
use Rattle.search_replies.proofs.shown.shown_text.Goals as goal

pub returns : goal.returns
returns c =
    c.in_ok-put_document.ensures
    ∙ ap (λ v. v ++ compact_text (object (members_by (shows c.in_ok-names.names) (members_in c.args.document.now)))) c.new-text.ensures.bytes
    ∙ ap compact_text (shown_alike (shows c.in_ok-names.names) c.args.fields.now c.in_ok-names.ensures c.args.document.now)

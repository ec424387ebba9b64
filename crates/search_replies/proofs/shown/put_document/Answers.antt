use Rattle.std.proofs.Common.{◌++◌, ◌∙◌, ap, sym, string_bytes}
use Rattle.serde_json.specs.Written.{compact_text}
use Rattle.search_replies.specs.Names.{shows}
use Rattle.search_replies.proofs.ShownLemmas.{shown_whole}
use Rattle.search_replies.proofs.shown.put_document.Goals as goal

pub returns-then-has_all : goal.returns-then-has_all
returns-then-has_all c =
    c.in_ok-push_str.ensures.bytes
    ∙ ap (λ v. string_bytes c.args.text.now ++ v)
    (c.text.ensures.text
    ∙ ap compact_text (sym (shown_whole (shows c.args.names.now) c.args.document.now (c.has_all.ensures c.if-has_all.true) c.text.ensures.is_document)))

use Rattle.std.proofs.Common.{◌++◌, ap, ◌∙◌, map, string_bytes}
use Rattle.serde_json.specs.Data.{array}
use Rattle.serde_json.specs.View.{items_of}
use Rattle.serde_json.specs.Written.{compact_text}
use Rattle.search_replies.specs.Names.{shows}
use Rattle.search_replies.proofs.ShownLemmas.{all_alike}
use Rattle.search_replies.proofs.shown.put_documents.Goals as goal

pub returns : goal.returns
returns c =
    c.in_ok-put_by_names.ensures
    ∙ ap (λ ds. string_bytes c.args.text.now ++ compact_text (array (items_of ds)))
    (all_alike (shows c.in_ok-names.names) c.args.fields.now c.in_ok-names.ensures (map (λ d. d.now) c.args.documents.now))

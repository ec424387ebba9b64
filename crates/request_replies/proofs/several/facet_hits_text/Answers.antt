use Rattle.std.proofs.Common.{◌++◌, ap, ◌∙◌, string_bytes}
use Rattle.std.specs.Option.{option_copied}
use Rattle.request_replies.proofs.PrintLemmas.{facet_hits_printed}
use Rattle.request_replies.proofs.several.facet_hits_text.Goals as goal

pub returns : goal.returns
returns c =
    facet_hits_printed (option_copied c.args.query) c.args.rows.now _ _ _ _ _
    c.in_ok-text.ensures.ok c.in_ok-put_facet_hits.ensures c.in_ok-query.ensures c.in_ok-rest.ensures.ok
    (c.in_ok-push_str.ensures.bytes ∙ ap (λ v. string_bytes c.put_facet_hits.new.text ++ v) c.deref.ensures)

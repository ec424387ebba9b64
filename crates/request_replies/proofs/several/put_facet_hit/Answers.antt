use Rattle.json.specs.Print.{quoted}
use Rattle.std.proofs.Common.{◌++◌, ap, ◌∙◌, string_bytes}
use Rattle.request_replies.proofs.PrintLemmas.{facet_hit_printed}
use Rattle.request_replies.proofs.several.put_facet_hit.Goals as goal

pub returns : goal.returns
returns c =
    facet_hit_printed c.args.row.now _ _ _ _
    (c.in_ok-value.ensures ∙ ap quoted c.as_str.ensures) c.in_ok-hit.ensures.ok
    (c.in_ok-push_str.ensures.bytes ∙ ap (λ v. string_bytes c.args.text.now ++ v) c.deref.ensures)

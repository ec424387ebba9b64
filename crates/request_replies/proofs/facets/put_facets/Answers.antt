use Rattle.std.proofs.Common.{◌++◌, ap, ◌∙◌, string_bytes}
use Rattle.request_replies.proofs.PrintLemmas.{facets_printed}
use Rattle.request_replies.proofs.facets.put_facets.Goals as goal

pub returns : goal.returns
returns c = λ rest. rw c.in-Some.is
    (facets_printed c.in-Some.facets.now c.args.later _ _ _ _ _ _ rest
    c.in_ok-put_comma.ensures c.in_ok-distribution.ensures c.in_ok-stats.ensures c.in_ok-both.ensures.ok
    (c.in_ok-push_str.ensures.bytes ∙ ap (λ v. string_bytes c.put_comma.new.text ++ v) c.deref.ensures))

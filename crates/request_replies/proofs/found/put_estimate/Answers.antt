use Rattle.std.proofs.Common.{◌++◌, ap, ◌∙◌, string_bytes}
use Rattle.request_replies.proofs.PrintLemmas.{estimate_printed}
use Rattle.request_replies.proofs.found.put_estimate.Goals as goal

pub returns-in_ok-push_str-in-Slice : goal.returns-in_ok-push_str-in-Slice
returns-in_ok-push_str-in-Slice c = λ rest. rw c.in-Slice.is
    (estimate_printed c.args.total _ _ _ rest c.in_ok-estimate-in-Slice.ensures.ok
    (c.in_ok-push_str-in-Slice.ensures.bytes ∙ ap (λ v. string_bytes c.args.text.now ++ v) c.deref.ensures))

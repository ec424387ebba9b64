use Rattle.std.proofs.Common.{◌≡◌, ◌++◌, ap, ◌∙◌, string_bytes, codes, rules}
use Rattle.std.specs.Fmt.{signed_decimal}
use Rattle.request_replies.proofs.PrintLemmas.{ends_printed}
use Rattle.request_replies.proofs.facets.put_ends.Goals as goal

pub returns : goal.returns
returns c =
    let printed : string_bytes c.in_ok-member.member ≡ string_bytes c.in_ok-name.name ++ (codes ":{\"max\":" ++ (signed_decimal c.args.greatest ++ (codes ",\"min\":" ++ (signed_decimal c.args.least ++ codes "}"))))
    = search rules in
    ends_printed c.args.attribute.now (c.args.least, c.args.greatest) _ _ _ _ c.in_ok-name.ensures printed
    (c.in_ok-push_str.ensures.bytes ∙ ap (λ v. string_bytes c.args.text.now ++ v) c.deref.ensures)

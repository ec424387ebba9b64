use Rattle.std.proofs.Common.{◌++◌, ap, ◌∙◌, map, string_bytes}
use Rattle.search_replies.specs.Shown.{all_shown}
use Rattle.request_replies.proofs.PrintLemmas.{listing_printed}
use Rattle.request_replies.proofs.listing.listing_text.Goals as goal

pub returns : goal.returns
returns c =
    listing_printed c.args.limit c.args.offset c.args.total (all_shown c.args.fields.now (map (λ d. d.now) c.args.documents.now)) _ _ _ _
    c.in_ok-text.ensures.ok c.in_ok-put_documents.ensures c.in_ok-rest.ensures.ok
    (c.in_ok-push_str.ensures.bytes ∙ ap (λ v. string_bytes c.put_documents.new.text ++ v) c.deref.ensures)

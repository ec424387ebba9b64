use Rattle.std.proofs.Common.{◌++◌, ap, ◌∙◌, string_bytes}
use Rattle.search_replies.proofs.PlaceLemmas.{place_printed}
use Rattle.search_replies.proofs.positions.put_place.Goals as goal

pub returns : goal.returns
returns c =
    place_printed c.args.place _ _ _ c.in_ok-place.ensures.ok
    (c.in_ok-push_str.ensures.bytes ∙ ap (λ v. string_bytes c.args.text.now ++ v) c.deref.ensures)

use Rattle.std.proofs.Common.{◌≡◌, ◌∷◌, [], rules, sym, ◌∙◌, append-nil}
use Rattle.form_urlencoded.specs.Form.{split}
use Rattle.request_routes.proofs.Splits.{split_front, split_whole, grown}
use Rattle.request_routes.proofs.parts.parts_of.Goals as goal

pub loop-part-preserved : goal.loop-part-preserved
loop-part-preserved c =
    let found = c.in-Some.ensures in
    let s = c.args.separator in
    let front : split s c.loop-part.left.now ≡ c.in-Some.part.now ∷ split s c.in-Some.rest.now =
    rw (found.0, found.1) (split_front s c.loop-part.left.now found.2) in
    record {
      text = search rules;
      whole = rw c.in_ok-push.ensures.items (grown c.loop-part.parts.items c.in-Some.part _ _ _ front c.loop-part.invariant.whole);
    }

pub returns : goal.returns
returns c =
    let s = c.args.separator in
    let whole = split_whole s c.loop-part.left.now c.in_default.ensures in
    rw c.in_ok-push-2.ensures.items
    (sym (append-nil _) ∙ grown c.loop-part.parts.items c.loop-part.left [] (split s c.loop-part.left.now) _ whole c.loop-part.invariant.whole)

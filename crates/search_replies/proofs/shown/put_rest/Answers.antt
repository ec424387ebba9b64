use Rattle.std.proofs.Common.{◌≡◌, ◌++◌, ◌∷◌, ◌+◌, drop, ap, sym, ◌∙◌, subst, string_bytes}
use Rattle.std.proofs.lemmas.List.{drop_more}
use Rattle.serde_json.specs.Data.{no_members}
use Rattle.serde_json.specs.Written.{members_text}
use Rattle.search_replies.specs.Added.{members_of, with_waiting, AreInOrder}
use Rattle.search_replies.proofs.AddedLemmas.{put_last}
use Rattle.search_replies.proofs.shown.put_rest.Goals as goal

pub loop-added-preserved : goal.loop-added-preserved
loop-added-preserved c =
    let own = members_of c.args.own.now in
    let all = c.args.line.waiting.now in
    let i = c.loop-added.added-index in
    let added = c.added-item.result in
    let waiting = drop (i + 1) all in
    let is : drop i all ≡ added ∷ waiting = drop_more all i added c.loop-added-test.true ∙ ap (λ v. v ∷ waiting) (sym c.added-item.is) in
    let order : AreInOrder (added ∷ waiting) = subst AreInOrder is c.loop-added.invariant.order in
    record {
      order = order.1;
      text = put_last own added waiting c.loop-added.later _ _ order c.in_ok-put_added.ensures
          ∙ ap (λ w. string_bytes c.loop-added.text ++ members_text c.loop-added.later (with_waiting own w no_members)) (sym is)
          ∙ c.loop-added.invariant.text;
    }

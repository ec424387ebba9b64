use Rattle.std.proofs.Common.{◌≡◌, ◌+◌, take, ◌++◌, ◌∷◌, [], List, ℕ, sym, ap, ◌∙◌, rules}
use Rattle.std.proofs.lemmas.List.{take_more}
use Rattle.std.specs.BTreeSet.{insert_key}
use Rattle.std.specs.Cmp.Lexicographic.{slice_cmp}
use Rattle.std.specs.Ordering.{nat_cmp}
use Rattle.facet_counts.specs.Order.{in_order as ordered}
use Rattle.facet_counts.proofs.InOrder.{in_order-behind}
use Rattle.facet_counts.proofs.order.in_order.Goals as goal

pub loop-text-preserved : goal.loop-text-preserved
loop-text-preserved c =
    let text = c.in_ok-clone.field-0 in
    let seen = take c.loop-text.text-index c.args.texts.now in
    let kept : c.insert.new.self.keys ≡ insert_key (slice_cmp nat_cmp) c.loop-text.distinct.keys text = search (rules) in
    let more : take (c.loop-text.text-index + 1) c.args.texts.now ≡ seen ++ text ∷ [] = search (rules, take_more) in
    kept ∙ ap (λ keys. insert_key (slice_cmp nat_cmp) keys text) c.loop-text.invariant ∙ sym (in_order-behind seen text) ∙ ap ordered (sym more)

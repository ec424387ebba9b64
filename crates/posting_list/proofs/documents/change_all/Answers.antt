use Rattle.std.proofs.Common.{◌≡◌, sym, subst, rules, arith}
use Rattle.std.specs.Vec.{with_items}
use Rattle.std.proofs.lemmas.List.{with_items_is}
use Rattle.posting_list.specs.Sets.{AreSetsOf}
use Rattle.posting_list.proofs.KeptLemmas.{HasChanged, one_more, all_gone, changed_of}
use Rattle.posting_list.proofs.documents.change_all.Goals as goal

pub loop-kept-preserved : goal.loop-kept-preserved
loop-kept-preserved c =
    one_more (HasChanged c.args.gone.now c.args.come.now c.args.list.now.entries) c.loop-kept.kept-index c.deref_mut-kept-items.result.now c.loop-kept.kept-items
    c.kept-item.result c.change_set.new.kept (search rules) c.kept-item.is (c.if-not-change_set.ensures.part, c.if-not-change_set.ensures.set) c.loop-kept.invariant

pub returns : goal.returns
returns c = λ entries after h.
    let gone = c.args.gone.now in
    let come = c.args.come.now in
    let list = c.args.list.now.entries in
    let new = c.loop-kept.kept-items in
    let items : (with_items c.args.sets.now new).items ≡ new = with_items_is c.args.sets.now new (search rules) in
    subst (λ sets. AreSetsOf sets list) (sym items)
    (all_gone (HasChanged gone come list) entries list (λ was now. changed_of gone come entries list after was now) c.deref_mut-kept-items.result.now new c.loop-kept.invariant.long
    (λ k lt. c.loop-kept.invariant.first k (omega arith) lt)
    (subst (λ sets. AreSetsOf sets entries) (sym c.deref_mut-kept-items.ensures.value) h))

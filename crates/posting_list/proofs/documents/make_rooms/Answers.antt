use Rattle.std.proofs.Common.{◌≡◌, sym, subst, rules}
use Rattle.std.proofs.Math.ListN.{set}
use Rattle.std.specs.Vec.{with_items}
use Rattle.std.proofs.lemmas.List.{with_items_is}
use Rattle.posting_list.specs.Sets.{AreSetsOf}
use Rattle.posting_list.proofs.KeptLemmas.{alike_set}
use Rattle.posting_list.proofs.documents.make_rooms.Goals as goal

pub loop-kept-preserved : goal.loop-kept-preserved
loop-kept-preserved c = λ entries h.
    alike_set entries c.loop-kept.kept-items c.loop-kept.kept-index c.kept-item.result c.make_room.new.kept (search rules)
    (c.in_ok-make_room.ensures.part, c.in_ok-make_room.ensures.ids) (c.loop-kept.invariant entries h)

pub returns-in_err-make_room : goal.returns-in_err-make_room
returns-in_err-make_room c = λ entries h.
    let new = set c.loop-kept.kept-items c.loop-kept.kept-index c.make_room.new.kept in
    let items : (with_items c.args.sets.now new).items ≡ new = with_items_is c.args.sets.now new (search rules) in
    subst (λ sets. AreSetsOf sets entries) (sym items)
    (alike_set entries c.loop-kept.kept-items c.loop-kept.kept-index c.kept-item.result c.make_room.new.kept (search rules)
    (c.make_room.ensures.part, c.make_room.ensures.ids)
    (c.loop-kept.invariant entries (subst (λ sets. AreSetsOf sets entries) (sym c.deref_mut-kept-items.ensures.value) h)))

pub returns : goal.returns
returns c = λ entries h.
    let new = c.loop-kept.kept-items in
    let items : (with_items c.args.sets.now new).items ≡ new = with_items_is c.args.sets.now new (search rules) in
    subst (λ sets. AreSetsOf sets entries) (sym items)
    (c.loop-kept.invariant entries (subst (λ sets. AreSetsOf sets entries) (sym c.deref_mut-kept-items.ensures.value) h))

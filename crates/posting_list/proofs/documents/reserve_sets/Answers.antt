use Rattle.std.proofs.Common.{sym, subst}
use Rattle.posting_list.specs.Sets.{AreSetsOf, AreSetsIn}
use Rattle.posting_list.proofs.documents.reserve_sets.Goals as goal

pub returns-in-Some-sets : goal.returns-in-Some-sets
returns-in-Some-sets c =
    let list = c.args.list.now.entries in
    c.make_rooms.ensures list (subst (λ v. AreSetsOf v.items list) (sym c.deref_mut.ensures.value) (subst (λ sets. AreSetsIn sets list) c.in-Some-sets.is c.requires))

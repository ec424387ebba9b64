use Rattle.filter_sets.proofs.JoinLemmas.{either_is}
use Rattle.filter_sets.proofs.join.either.Goals as goal

pub returns : goal.returns
returns c = λ passes other made also.
    either_is c.operations_are_on_members.ensures c.sets_are_their_members.ensures c.args.all.now.ids c.args.docs.now.ids c.args.more.now.ids c.in_ok-both.both.ids
    passes other c.len.ensures.increasing c.len-2.ensures.increasing c.in_ok-both.ensures made also

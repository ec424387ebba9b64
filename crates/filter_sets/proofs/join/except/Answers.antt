use Rattle.filter_sets.proofs.JoinLemmas.{except_is}
use Rattle.filter_sets.proofs.join.except.Goals as goal

pub returns : goal.returns
returns c = λ passes made.
    except_is c.operations_are_on_members.ensures c.sets_are_their_members.ensures c.args.all.now.ids c.args.docs.now.ids c.in_ok-rest.rest.ids passes
    c.len.ensures.increasing c.len-2.ensures.increasing c.in_ok-rest.ensures made

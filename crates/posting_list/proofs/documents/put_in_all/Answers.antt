use Rattle.std.proofs.Common.{sym, ap, ◌||◌, rules}
use Rattle.doc_sets.specs.Sets.{has}
use Rattle.posting_list.specs.Sets.{is_part}
use Rattle.posting_list.proofs.MovedLemmas.{none_passing}
use Rattle.posting_list.proofs.documents.put_in_all.Goals as goal

pub returns-then-not-may_have : goal.returns-then-not-may_have
returns-then-not-may_have c = λ id.
    sym (ap (λ b. b || has c.args.set.now.ids id) (none_passing (is_part c.args.part) c.args.come.now (search rules) id))

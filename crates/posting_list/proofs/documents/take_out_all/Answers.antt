use Rattle.std.proofs.Common.{not, ◌&&◌, ◌||◌, sym, ap, ◌∙◌, rules}
use Rattle.doc_sets.specs.Sets.{has}
use Rattle.posting_list.specs.Sets.{has_passing, is_part}
use Rattle.posting_list.proofs.SetLemmas.{with_true}
use Rattle.posting_list.proofs.MovedLemmas.{none_passing}
use Rattle.posting_list.proofs.documents.take_out_all.Goals as goal

pub returns-else-may_have : goal.returns-else-may_have
returns-else-may_have c = λ id.
    let p = is_part c.args.part in
    let stays = has_passing p c.args.list.now.entries id in
    sym (ap (λ b. has c.args.set.now.ids id && (not b || stays)) (none_passing p c.args.gone.now (search rules) id) ∙ with_true (has c.args.set.now.ids id))

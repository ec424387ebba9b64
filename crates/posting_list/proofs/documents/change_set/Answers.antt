use Rattle.std.proofs.Common.{◌&&◌, ◌/◌, ◌^◌, eqb}
use Rattle.posting_list.specs.Sets.{is_part}
use Rattle.posting_list.proofs.SetLemmas.{one_after}
use Rattle.posting_list.proofs.documents.change_set.Goals as goal

pub returns-clause-set : goal.returns-clause-set
returns-clause-set c = λ entries after was id.
    let p = is_part c.args.kept.now.part in
    one_after (λ e. eqb (e / 2 ^ 32) id && p e) c.args.gone.now c.args.come.now entries c.args.list.now.entries after
    _ _ _ (was id) (c.if-not-put_in_all.ensures id) (c.take_out_all.ensures id)

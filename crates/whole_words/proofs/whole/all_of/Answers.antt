use Rattle.std.proofs.Common.{ap, ◌∙◌, arith}
use Rattle.doc_sets.specs.Sets.{has}
use Rattle.whole_words.proofs.SetLemmas.{some_more}
use Rattle.whole_words.proofs.whole.all_of.Goals as goal

pub loop-set-preserved : goal.loop-set-preserved
loop-set-preserved c = λ id.
    ap (λ v. has v id) c.in_ok-add.ensures.ids
    ∙ some_more id c.loop-set.set-index c.args.sets.now c.set-item.result c.loop-set.found (omega arith) c.set-item.is (c.loop-set.invariant id)

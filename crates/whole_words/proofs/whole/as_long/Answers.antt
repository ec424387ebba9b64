use Rattle.std.proofs.Common.{◌+◌, ◌||◌, drop, ap, sym, ◌∙◌, arith}
use Rattle.doc_sets.specs.Sets.{has}
use Rattle.whole_words.specs.Costs.{is_as_long}
use Rattle.whole_words.proofs.SetLemmas.{one_more, none_left}
use Rattle.whole_words.proofs.whole.as_long.Goals as goal

pub loop-path-preserved : goal.loop-path-preserved
loop-path-preserved c = λ documents lengths id.
    ap (λ v. has v id || is_as_long documents c.args.count (c.loop-path.path + 1) (drop (c.loop-path.path + 1) c.args.begun.now) id) c.in_ok-add.ensures.ids
    ∙ one_more documents c.args.count c.loop-path.path id c.args.begun.now c.index-begun-path.result c.in_ok-docs.docs.ids c.loop-path.found (omega arith)
    c.index-begun-path.is (c.in_ok-docs.ensures documents lengths)
    ∙ c.loop-path.invariant documents lengths id

pub returns-clause-documents : goal.returns-clause-documents
returns-clause-documents c = λ documents lengths id.
    ap (λ v. has v id) c.in_ok-docs-2.ensures
    ∙ sym (none_left documents c.args.count c.loop-path.path id c.args.begun.now (has c.loop-path.found id) (omega arith))
    ∙ c.loop-path.invariant documents lengths id

use Rattle.std.proofs.Common.{◌||◌, sym, ap, ◌∙◌}
use Rattle.doc_sets.specs.Sets.{has, union}
use Rattle.doc_sets.proofs.SetLemmas.{has-union}
use Rattle.rule_buckets.proofs.Members.{any-more}
use Rattle.rule_buckets.proofs.matching.all_of.Goals as goal

pub loop-docs-preserved : goal.loop-docs-preserved
loop-docs-preserved c = λ d.
    let docs = c.docs-item.result in
    ap (λ l. has l d) (c.in_ok-more.ensures ∙ ap (union c.loop-docs.all.ids) c.in_ok-copy.ensures.cases) ∙ has-union c.loop-docs.all.ids docs.ids d ∙ ap (λ b. b || has docs.ids d) (c.loop-docs.invariant d)
    ∙ sym (any-more (λ s. has s.ids d) c.args.levels.now c.loop-docs.docs-index docs c.loop-docs-test.true c.docs-item.is)

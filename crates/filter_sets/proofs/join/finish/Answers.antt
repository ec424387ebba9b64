use Rattle.std.proofs.Common.{◌∙◌, sym, ap}
use Rattle.std.specs.List.{filter}
use Rattle.doc_sets.specs.Sets.{has}
use Rattle.facet_index.proofs.TestLemmas.{has_filter, increasing_filter}
use Rattle.filter_sets.proofs.join.finish.Goals as goal

pub returns : goal.returns
returns c = λ passes same.
    c.sets_are_their_members.ensures c.in_ok-docs.docs.ids (filter passes c.args.all.now.ids) c.len.ensures.increasing
    (increasing_filter passes c.args.all.now.ids c.len-2.ensures.increasing)
    (λ d. ap (λ ids. has ids d) c.in_ok-docs.ensures ∙ same d ∙ sym (has_filter passes c.args.all.now.ids d))

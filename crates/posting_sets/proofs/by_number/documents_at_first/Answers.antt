use Rattle.posting_sets.proofs.FirstLemmas.{are_at_first}
use Rattle.posting_sets.proofs.by_number.documents_at_first.Goals as goal

pub returns : goal.returns
returns c = are_at_first c.args.postings.now c.args.term.now c.args.universe.now.ids c.len-documents.ensures.increasing c.in_ok-sets.sets.items _
    c.in_ok-first_set.ensures.0 c.in_ok-first_set.ensures.1 c.in_ok-sets.ensures.each

use Rattle.posting_sets.proofs.BeginningLemmas.{ok_two, few_sets, are_beginning}
use Rattle.posting_sets.proofs.OccursLemmas.{ok_of}
use Rattle.posting_sets.proofs.by_number.documents_by_beginning.Goals as goal

pub returns-clause-sets : goal.returns-clause-sets
returns-clause-sets c = ok_two _ _ _ c.finished.result c.finished.ensures.same c.finished.ensures.increasing (λ made same rise.
    are_beginning c.args.postings.now c.args.words.now c.requires c.args.universe.now.ids c.len-documents.ensures.increasing c.in_ok-sets.sets.items made.items
    c.in_ok-sets.ensures.each same rise)

pub returns-clause-few : goal.returns-clause-few
returns-clause-few c = ok_of _ _ c.finished.result c.finished.ensures.same (λ made same. few_sets made.items c.in_ok-sets.sets.items _ same c.in_ok-sets.ensures.few)

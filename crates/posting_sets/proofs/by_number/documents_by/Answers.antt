use Rattle.posting_sets.specs.Gathered.{place_number}
use Rattle.posting_sets.proofs.OccursLemmas.{ok_of}
use Rattle.posting_sets.proofs.ByNumberLemmas.{are_numbered}
use Rattle.posting_sets.proofs.by_number.documents_by.Goals as goal

pub returns : goal.returns
returns c = ok_of _ _ c.least_sets.result c.least_sets.ensures (λ rows least.
    are_numbered c.args.postings.now c.args.term.now (place_number c.args.number) c.args.universe.now.ids c.in_ok-sets.sets.items rows.items
    c.len-documents.ensures.increasing c.in_ok-sets.ensures.each least)

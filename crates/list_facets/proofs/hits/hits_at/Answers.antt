use Rattle.std.proofs.Common.{subst}
use Rattle.doc_sets.specs.Sets.{has}
use Rattle.facet_index.specs.Places.{has_document}
use Rattle.facet_index.proofs.TestLemmas.{filter_same}
use Rattle.list_facets.specs.Hits.{AreHits}
use Rattle.list_facets.proofs.hits.hits_at.Goals as goal

pub returns-in-Some : goal.returns-in-Some
returns-in-Some c = λ whole.
    subst (AreHits c.hits_in_kept.result) (filter_same (has c.in-Some.kept.now.ids) (λ d. has_document d c.args.list.now.entries) c.args.matching.now.ids
    c.in-Some.ensures) c.hits_in_kept.ensures

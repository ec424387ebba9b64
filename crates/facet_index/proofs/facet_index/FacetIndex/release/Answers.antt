use Rattle.std.proofs.Common.{sym, subst}
use Rattle.facet_index.specs.Places.{IsIndexOf}
use Rattle.facet_index.proofs.BatchLemmas.{index_same}
use Rattle.facet_index.proofs.facet_index.FacetIndex.release.Goals as goal

pub returns-clause-same : goal.returns-clause-same
returns-clause-same c = λ documents index.
    index_same c.self.inside.keys c.release.new.self documents c.release.ensures.lists (subst (λ v. IsIndexOf v documents) (sym c.self.view_is) index)

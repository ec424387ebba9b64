use Rattle.std.proofs.Common.{map, sym, subst}
use Rattle.facet_index.specs.Places.{keyed, IsIndexOf}
use Rattle.facet_index.specs.Batches.{IsChangeFor}
use Rattle.facet_index.proofs.BatchLemmas.{index_same}
use Rattle.facet_index.proofs.facet_index.FacetIndex.prepare.Goals as goal

pub returns-in_err-keys-clause-same : goal.returns-in_err-keys-clause-same
returns-in_err-keys-clause-same c = λ documents index.
    index_same c.self.inside.keys c.prepare.new.self documents c.prepare.ensures.lists (subst (λ v. IsIndexOf v documents) (sym c.self.view_is) index)

pub returns-clause-same : goal.returns-clause-same
returns-clause-same c = λ documents index.
    index_same c.self.inside.keys c.prepare.new.self documents c.prepare.ensures.lists (subst (λ v. IsIndexOf v documents) (sym c.self.view_is) index)

pub returns-clause-made : goal.returns-clause-made
returns-clause-made c = λ gone come change.
    let named = subst (λ v. IsChangeFor v gone come) (sym c.change.view_is) change in
    record {
      keys = c.in_ok-keys.ensures.made (map keyed gone) (map keyed come) named.keys;
      narrow = named.narrow;
    }

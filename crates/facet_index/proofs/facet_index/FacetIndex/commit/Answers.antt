use Rattle.std.proofs.Common.{map, sym, subst}
use Rattle.postings.specs.Fresh.{StandsFor}
use Rattle.postings.specs.Changes.{IsPreparedOf}
use Rattle.facet_index.specs.Places.{keyed}
use Rattle.facet_index.proofs.BatchLemmas.{after_keyed, batch_keyed, narrow_after}
use Rattle.facet_index.proofs.facet_index.FacetIndex.commit.Goals as goal

pub returns-clause-index : goal.returns-clause-index
returns-clause-index c = λ gone come documents prepared batch index. record {
  keys = subst (StandsFor c.commit.new.self) (after_keyed gone come documents)
      (c.commit.ensures.fresh (map keyed gone) (map keyed come) (map keyed documents)
      (subst (λ v. IsPreparedOf v (map keyed gone) (map keyed come)) (sym c.prepared.view_is) prepared.keys)
      (batch_keyed gone come documents batch)
      (subst (λ v. StandsFor v (map keyed documents)) (sym c.self.view_is) index.keys));
  narrow = narrow_after gone come documents prepared.narrow index.narrow;
}

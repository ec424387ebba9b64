use Rattle.std.proofs.Common.{◌∷◌, ◌∙◌, map, sym, subst}
use Rattle.postings.specs.Changes.{IsChangeOf}
use Rattle.facet_index.specs.Places.{keyed}
use Rattle.facet_index.specs.Batches.{IsChangeFor}
use Rattle.facet_index.proofs.BatchLemmas.{made}
use Rattle.facet_index.proofs.change.FacetChange.put_in.Goals as goal

pub returns : goal.returns
returns c = λ gone come change.
    let named = subst (λ v. IsChangeFor v gone come) (sym c.self.view_is) change in
    record {
      keys = subst (λ places. IsChangeOf c.put_in.new.self (map keyed gone) (made c.args.id.0 places ∷ map keyed come))
          (c.as_slice.ensures.value ∙ c.in_ok-places.ensures.places c.args.id.0)
          (c.in_ok-put_in.ensures (map keyed gone) (map keyed come) named.keys);
      narrow = (c.in_ok-places.ensures.narrow c.args.id.0, named.narrow);
    }

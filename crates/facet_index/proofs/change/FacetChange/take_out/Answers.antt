use Rattle.std.proofs.Common.{◌∷◌, ◌∙◌, map, sym, subst}
use Rattle.postings.specs.Changes.{IsChangeOf}
use Rattle.facet_index.specs.Places.{keyed}
use Rattle.facet_index.specs.Batches.{IsChangeFor}
use Rattle.facet_index.proofs.BatchLemmas.{made}
use Rattle.facet_index.proofs.change.FacetChange.take_out.Goals as goal

pub returns : goal.returns
returns c = λ gone come change.
    let named = subst (λ v. IsChangeFor v gone come) (sym c.self.view_is) change in
    record {
      keys = subst (λ places. IsChangeOf c.take_out.new.self (made c.args.id.0 places ∷ map keyed gone) (map keyed come))
          (c.as_slice.ensures.value ∙ c.in_ok-places.ensures.places c.args.id.0)
          (c.in_ok-take_out.ensures (map keyed gone) (map keyed come) named.keys);
      narrow = named.narrow;
    }

use Rattle.std.proofs.Common.{map, subst, sym}
use Rattle.postings.specs.Changes.{IsChangeOf}
use Rattle.posting_sets.proofs.NumberLemmas.{on_ok}
use Rattle.path_lengths.specs.Measured.{measured}
use Rattle.path_lengths.specs.Lasts.{AreLengthPlaces}
use Rattle.path_lengths.proofs.BatchLemmas.{one_comes}
use Rattle.path_lengths.proofs.change.LengthChange.put_in.Goals as goal

pub returns : goal.returns
returns c = on_ok c.put_in.result c.put_in.ensures (λ told gone come was. record {
  keys = one_comes c.put_in.new.self c.args.id.0 c.args.places.now c.as_slice.result.now (map measured gone) (map measured come)
      (subst (AreLengthPlaces c.args.places.now) (sym c.as_slice.ensures.value) c.in_ok-lengths.ensures.places)
      (told (map measured gone) (map measured come) (subst (λ v. IsChangeOf v (map measured gone) (map measured come)) (sym c.self.view_is) was.keys));
  narrow = (c.in_ok-lengths.ensures.narrow, was.narrow);
})

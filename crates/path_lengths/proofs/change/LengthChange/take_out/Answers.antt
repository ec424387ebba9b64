use Rattle.std.proofs.Common.{map, subst, sym}
use Rattle.postings.specs.Changes.{IsChangeOf}
use Rattle.posting_sets.proofs.NumberLemmas.{on_ok}
use Rattle.path_lengths.specs.Measured.{measured}
use Rattle.path_lengths.specs.Lasts.{AreLengthPlaces}
use Rattle.path_lengths.proofs.BatchLemmas.{one_goes}
use Rattle.path_lengths.proofs.change.LengthChange.take_out.Goals as goal

pub returns : goal.returns
returns c = on_ok c.take_out.result c.take_out.ensures (λ told gone come was. record {
  keys = one_goes c.take_out.new.self c.args.id.0 c.args.places.now c.as_slice.result.now (map measured gone) (map measured come)
      (subst (AreLengthPlaces c.args.places.now) (sym c.as_slice.ensures.value) c.in_ok-lengths.ensures.places)
      (told (map measured gone) (map measured come) (subst (λ v. IsChangeOf v (map measured gone) (map measured come)) (sym c.self.view_is) was.keys));
  narrow = was.narrow;
})

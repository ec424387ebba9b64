use Rattle.std.proofs.Common.{map, ap, subst, sym, ◌∙◌}
use Rattle.posting_sets.proofs.OccursLemmas.{ok_of}
use Rattle.path_lengths.specs.Lasts.{lasts, spot_place, AreLengthPlaces}
use Rattle.path_lengths.proofs.LastLemmas.{are_length_places}
use Rattle.path_lengths.proofs.places.length_places.Goals as goal

pub returns-clause-places : goal.returns-clause-places
returns-clause-places c = ok_of _ _ c.places_at.result c.places_at.ensures (λ found is.
    subst (AreLengthPlaces c.args.places.now) (sym (is ∙ ap (λ v. map spot_place (lasts v)) c.as_slice.ensures.value))
    (are_length_places c.args.places.now c.in_ok-spots.spots.items c.in_ok-spots.ensures.increasing c.in_ok-spots.ensures.same c.in_ok-spots.ensures.narrow))

-- The genres of four films, by numbers.
use Rattle.std.specs.Prelude.{ℕ, ◌==◌, pos, List, [], ◌∷◌, if◌then◌else◌}
use Rattle.search_base.specs.declared.value.FacetValue.{FacetValue}
use Rattle.search_base.specs.declared.value.FacetValue.TheVariants.{Number}

abbrev pub genres_of : ℕ → List FacetValue
genres_of d =
    if d == 0 then Number (pos 1) ∷ Number (pos 2) ∷ []
    else if d == 1 then Number (pos 1) ∷ []
    else if d == 3 then Number (pos 2) ∷ []
    else []

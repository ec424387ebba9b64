-- The places at one position of a path.
use Rattle.std.specs.Prelude.{ℕ, ◌==◌, ◌&&◌, ◌||◌, nat_lt, Bool}
use Rattle.search_base.specs.declared.document.Place.{Place}

-- the place is at this position of this path
abbrev pub is_at : ℕ → ℕ → Place → Bool
is_at path position place = (place.path.0 == path) && (place.position == position)

-- the place is in an earlier path, or in this one before the position
abbrev pub is_before : ℕ → ℕ → Place → Bool
is_before path position place = nat_lt place.path.0 path || ((place.path.0 == path) && nat_lt place.position position)

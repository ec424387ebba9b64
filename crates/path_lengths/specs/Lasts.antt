-- The last words of paths, from their paths and positions in order.
use Rattle.std.specs.Prelude.{◌≡◌, ℕ, ◌+◌, ◌*◌, ◌/◌, ◌%◌, ◌^◌, ◌==◌, Bool, false, List, [], ◌∷◌, if◌then◌else◌}
use Rattle.std.specs.List.{list_any}
use Rattle.search_base.specs.declared.document.Place.{Place}
use Rattle.path_lengths.specs.Measured.{key_place, length_key, lengths_of}

-- a path and a position in it as one number
abbrev pub spot_of : Place → ℕ
spot_of place = place.path.0 * 2 ^ 16 + place.position

-- one of the places is at this spot
abbrev pub is_taken : List Place → ℕ → Bool
is_taken places spot = list_any (λ place. spot_of place == spot) places

-- the first of some spots is in the path of this one
abbrev pub goes_on : ℕ → List ℕ → Bool
goes_on spot [] = false
goes_on spot (next ∷ later) = next / 2 ^ 16 == spot / 2 ^ 16

-- the last spot of each path, of spots in order
abbrev pub lasts : List ℕ → List ℕ
lasts [] = []
lasts (spot ∷ later) = if goes_on spot later then lasts later else spot ∷ lasts later

-- the length of a path as a place, by its last spot
abbrev pub spot_place : ℕ → Place
spot_place spot = key_place (length_key (spot / 2 ^ 16) (spot % 2 ^ 16 + 1))

-- the places are those of the lengths, in any order
abbrev pub AreLengthPlaces : List Place → List Place → Type 0
AreLengthPlaces places found = (test : Place → Bool) → list_any test found ≡ list_any test (lengths_of places)

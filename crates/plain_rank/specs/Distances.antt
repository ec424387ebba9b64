-- The distances between places, two by two.
use Rattle.std.specs.Prelude.{ℕ, ◌&&◌, Bool, List, Option, Some, None, if◌then◌else◌}
use Rattle.std.specs.Str.{bytes_eq}
use Rattle.search_base.specs.declared.document.Place.{Place}
use Rattle.search_base.specs.Least.{least_by}
use Rattle.search_base.specs.Occurrence.{is_asked}
use Rattle.search_base.specs.PairCost.{distance, stands_apart}

-- the distance from a place to another, if that has a word that is asked for in the same path
abbrev pub distance_if : Bool → List ℕ → Place → Place → Option ℕ
distance_if prefix right a b =
    if stands_apart a b && is_asked prefix right b.word then Some (distance a.position b.position) else None

-- the least distance from a place with the left word
abbrev pub distance_from : List Place → List ℕ → Bool → List ℕ → Place → Option ℕ
distance_from places left prefix right a =
    if bytes_eq left a.word then least_by (distance_if prefix right a) places else None

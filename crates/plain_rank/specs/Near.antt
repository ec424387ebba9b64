-- Pairs of places that are near enough to count, in places that stand in order.
use Rattle.std.specs.Prelude.{ℕ, ◌+◌, ◌==◌, nat_lt, nat_le, Bool, true, ◌&&◌, ◌||◌, if◌then◌else◌}
use Rattle.std.specs.Prelude.{◌≡◌, List, [], ◌∷◌, Option, Some, None}
use Rattle.std.specs.List.{AllByRecursion}
use Rattle.std.specs.Str.{bytes_eq}
use Rattle.search_base.specs.declared.document.Place.{Place}
use Rattle.search_base.specs.Least.{lesser, least_by}
use Rattle.search_base.specs.Occurrence.{is_asked}
use Rattle.search_base.specs.PairCost.{distance, stands_apart}

-- the place is in an earlier path, or not behind the other in the same path
abbrev pub stands_before : Place → Place → Bool
stands_before a b = nat_lt a.path.0 b.path.0 || ((a.path.0 == b.path.0) && nat_le a.position b.position)

abbrev pub StandsBefore : Place → Place → Type 0
StandsBefore a b = stands_before a b ≡ true

-- by path and then by position
abbrev pub InOrder : List Place → Type 0
InOrder [] = Unit {0}
InOrder (place ∷ places) = AllByRecursion (StandsBefore place) places × InOrder places

-- the other place is in a later path, or more than 7 positions behind
abbrev pub is_beyond : Place → Place → Bool
is_beyond a b = nat_lt a.path.0 b.path.0 || ((a.path.0 == b.path.0) && nat_lt (a.position + 7) b.position)

-- the distance from a place with the left word to one that is asked for, below 8
abbrev pub near_pair : List ℕ → Bool → List ℕ → Place → Place → Option ℕ
near_pair left prefix right a b =
    if (stands_apart a b && nat_lt (distance a.position b.position) 8)
    && (bytes_eq left a.word && is_asked prefix right b.word)
    then Some (distance a.position b.position) else None

-- both ways
abbrev pub near_both : List ℕ → Bool → List ℕ → Place → Place → Option ℕ
near_both left prefix right a b = lesser (near_pair left prefix right a b) (near_pair left prefix right b a)

-- the least over each two places
abbrev pub least_near : List ℕ → Bool → List ℕ → List Place → Option ℕ
least_near left prefix right [] = None
least_near left prefix right (place ∷ places) =
    lesser (least_by (near_both left prefix right place) places) (least_near left prefix right places)

-- The pair cost of two words, from the entries of their places.
use Rattle.std.specs.Prelude.{◌≡◌, ℕ, ◌-◌, ◌/◌, ◌^◌, ◌==◌, min, Bool, ◌&&◌, not, List, map, filter, flat_map}
use Rattle.std.specs.List.{list_any}
use Rattle.std.specs.Option.{unwrap_or}
use Rattle.search_base.specs.declared.document.Place.{Place}
use Rattle.search_base.specs.Least.{least}
use Rattle.search_base.specs.PairCost.{distance}
use Rattle.sorted_pages.specs.Entries.{has}
use Rattle.postings.specs.Documents.{entry_of}

-- the entries are different positions of one path of one document
abbrev pub is_apart : ℕ → ℕ → Bool
is_apart x y = (x / 2 ^ 16 == y / 2 ^ 16) && not (x == y)

-- the distances from an entry to those of a list
abbrev pub distances_to : List ℕ → ℕ → List ℕ
distances_to right x = map (distance x) (filter (is_apart x) right)

-- the least of the distances from one list to the other, cut at 8
abbrev pub cut_distance : List ℕ → List ℕ → ℕ
cut_distance left right = min 8 (unwrap_or (least (flat_map (distances_to right) left)) 8)

-- the same less 1: 7 where there is none below 8
abbrev pub cost_of : List ℕ → List ℕ → ℕ
cost_of left right = cut_distance left right - 1

-- the entries are those of the document's places whose words pass a test
pub record AreEntriesOf (id : ℕ) (places : List Place) (is_word : List ℕ → Bool) (entries : List ℕ) : Type 0 where
  pub each : (entry : ℕ) → has entries entry ≡ list_any (λ place. is_word place.word && (entry_of id place == entry)) places

-- Where some words stand in a row, from the list of each.
use Rattle.std.specs.Prelude.{◌≡◌, ℕ, ◌+◌, ◌-◌, ◌^◌, nat_le, Bool, true, ◌&&◌, ◌||◌, ◌==◌, List, [], ◌∷◌, map, length}
use Rattle.std.specs.List.{filter}
use Rattle.sorted_pages.specs.Entries.{has, IsIncreasing}
use Rattle.posting_sets.specs.Entries.{document_of, position_of}

-- the lists, of which the first is that of word k, have the entries from word k on
abbrev pub stand_all : ℕ → List (List ℕ) → ℕ → Bool
stand_all k [] start = true
stand_all k (list ∷ lists) start = has list (start + k) && stand_all (k + 1) lists start

-- the same, but for one word
abbrev pub stand_beside : ℕ → ℕ → List (List ℕ) → ℕ → Bool
stand_beside at k [] start = true
stand_beside at k (list ∷ lists) start = (k == at || has list (start + k)) && stand_beside at (k + 1) lists start

-- so many entries from this one on are in one path
abbrev pub is_within : ℕ → ℕ → Bool
is_within count start = nat_le (position_of start + count) (2 ^ 16)

-- the words stand in a row from this entry on
abbrev pub is_start : List (List ℕ) → ℕ → Bool
is_start lists start = is_within (length lists) start && stand_all 0 lists start

-- the others stand in a row around one word that is at this entry
abbrev pub is_around : List (List ℕ) → ℕ → ℕ → Bool
is_around lists at entry =
    nat_le at (position_of entry) && (is_within (length lists) (entry - at) && stand_beside at 0 lists (entry - at))

-- the entry is of a document of the set
abbrev pub is_inside : List ℕ → ℕ → Bool
is_inside ids entry = has ids (document_of entry)

-- where the words begin to stand in a row in documents of the set, by the entries of one of them
abbrev pub starts_at : List ℕ → List (List ℕ) → ℕ → List ℕ → List ℕ
starts_at ids lists at entries =
    map (λ entry. entry - at) (filter (is_around lists at) (filter (is_inside ids) entries))

-- these are the entries from which on the words stand in a row in documents of the set, in order
pub record AreStarts (ids : List ℕ) (lists : List (List ℕ)) (starts : List ℕ) : Type 0 where
  pub up : IsIncreasing starts
  pub each : (entry : ℕ) → has starts entry ≡ (is_inside ids entry && is_start lists entry)

-- The indexes of a server, each under its uid.
use Rattle.std.specs.Prelude.{◌≡◌, ◌≤◌, ℕ, List, length, Bool, true, nat_le, Option, unwrap_or}
use Rattle.std.specs.Cmp.Lexicographic.{slice_cmp}
use Rattle.std.specs.Coded.{Coded, coded×, coded_ℕ, coded_list}
use Rattle.std.specs.List.{AllByRecursion}
use Rattle.std.specs.List.Sorted.{IsStrictlySortedBy}
use Rattle.std.specs.Map.{lookup, remove_entry}
use Rattle.std.specs.Ordering.{nat_cmp}
use Rattle.std.specs.BTreeMap.{is_at, insert_entry}
use Rattle.doc_values.specs.Ids.{is_uid}
use Rattle.index_changes.specs.Index.{Index, empty_index, index_code}

-- the indexes by their uids, in the order of the uids' bytes
abbrev pub Indexes : Type 0
Indexes = List (List ℕ × Index)

-- how the logic stores them
abbrev pub indexes_code : Coded (List (List ℕ × Index))
indexes_code = coded_list (coded× (coded_list coded_ℕ) index_code)

abbrev pub index_at : List ℕ → Indexes → Option Index
index_at uid es = lookup (is_at (slice_cmp nat_cmp uid)) es

-- the index of this uid, or an empty one where none is there
abbrev pub index_or_empty : List ℕ → Indexes → Index
index_or_empty uid es = unwrap_or (index_at uid es) empty_index

-- the indexes with this one under the uid
abbrev pub with_index : List ℕ → Index → Indexes → Indexes
with_index uid i es = insert_entry (slice_cmp nat_cmp) es uid i

abbrev pub without_index : List ℕ → Indexes → Indexes
without_index uid es = remove_entry (is_at (slice_cmp nat_cmp uid)) es

abbrev pub most_indexes : ℕ
most_indexes = 1000

abbrev pub is_full : Indexes → Bool
is_full es = nat_le most_indexes (length es)

-- texts by which indexes stand: no more than there may be, each a uid, in the order of their bytes
pub record AreUids (uids : List (List ℕ)) : Type 0 where
  pub few : length uids ≤ most_indexes
  pub each : AllByRecursion (λ uid. is_uid uid ≡ true) uids
  pub ordered : IsStrictlySortedBy (slice_cmp nat_cmp) uids

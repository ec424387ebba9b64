-- The documents of an update, as they are stored.
use Rattle.std.specs.Prelude.{◌≡◌, ◌==◌, ℕ, Bool, true, false, List, [], ◌∷◌, Option, None, Some, bytes_eq, if◌then◌else◌}
use Rattle.std.specs.List.{list_any}
use Rattle.std.specs.BTreeMap.{BTreeMap, get}
use Rattle.std.specs.Cmp.Lexicographic.{slice_cmp}
use Rattle.std.specs.Ordering.{nat_cmp}
use Rattle.serde_json.specs.Data.{Data}
use Rattle.doc_index.specs.declared.named.Stored.{Stored}
use Rattle.doc_index.specs.Named.{named, AreRead}
use Rattle.doc_store.specs.declared.rows.StoreRow.{StoreRow}
use Rattle.path_registry.specs.Paths.{has_path, last_place}
use Rattle.doc_store.specs.Store.{Store, stored, externals}
use Rattle.index_changes.specs.Plans.{updating}

-- one of these documents has the external id
abbrev pub comes : List ℕ → List StoreRow → Bool
comes external rows = has_path external (externals rows)

-- each document over the one that is stored by then, where no later one has its external id; the others as they came
abbrev pub updated_rows : List StoreRow → Store → List StoreRow
updated_rows [] s = []
updated_rows (r ∷ rs) s =
    (if comes r.external rs then r else updating r s) ∷ updated_rows rs (stored (updating r s) s)

abbrev pub row_of : List ℕ → Data → StoreRow
row_of external document = record { external = external; document = document }

-- the map has the place of the last document of each external id
pub record ArePlaces (places : BTreeMap (List ℕ) ℕ) (rows : List StoreRow) : Type 0 where
  pub each : (external : List ℕ) → get (slice_cmp nat_cmp) places external ≡ last_place external (externals rows)

-- whether the place is this one
abbrev pub is_place : Option ℕ → ℕ → Bool
is_place None at = false
is_place (Some place) at = place == at

-- what waits behind a document: nothing behind the last of its external id
abbrev pub waits_after : Bool → Data → Option Data
waits_after true document = None
waits_after false document = Some document

-- the stored document with an external id is among those that were read
pub record IsRead (external : List ℕ) (stored : List Stored) (s : Store) : Type 0 where
  pub ids : List (List ℕ)
  pub read : AreRead stored (named ids s.rows)
  pub among : list_any (bytes_eq external) ids ≡ true

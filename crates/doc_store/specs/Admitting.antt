-- Documents that are admitted to a store, more of them at a time.
use Rattle.std.specs.Prelude.{◌≡◌, ◌≤◌, ◌+◌, ◌++◌, Bool, true, false, List, length, map, Option, Some}
use Rattle.search_base.specs.Trying.{refuse_if}
use Rattle.doc_store.specs.declared.rows.StoreRow.{StoreRow}
use Rattle.doc_store.specs.declared.rows.StoreRefusal.{StoreRefusal}
use Rattle.doc_store.specs.declared.rows.StoreRefusal.TheVariants.{PathsSpent}
use Rattle.doc_store.specs.declared.admitting.Admitting.{Admitting}
use Rattle.doc_store.specs.declared.admitting.NewPaths.{NewPaths}
use Rattle.doc_store.specs.Given.{AreIdsOf}
use Rattle.path_registry.specs.Names.{Names}
use Rattle.doc_store.specs.Store.{Store, all_stored, ids_given, paths_after, paths_spent}

-- so far these documents are admitted to a store, the internal ids of which are found by `ids`
pub record IsAdmitting (ids : Names) (s : Store) (before : List StoreRow) (a : Admitting) : Type 0 where
  pub known : AreIdsOf ids a.fresh a.free (all_stored before s)
  pub given : map (λ id. id.0) a.ids.items ≡ ids_given before s
  pub paths : s.paths ++ a.added.paths ≡ paths_after before s.paths
  pub few_ids : a.free ≤ 1000000
  pub few_paths : length s.paths + length a.added.paths ≤ 1000

-- why paths of which there are too many are not added
abbrev pub if_spent : Bool → Option StoreRefusal
if_spent spent = refuse_if spent PathsSpent

-- the paths of these documents are noted behind those of a store and of an admission, unless there are too many
pub record IsNoted (s : Store) (a : Admitting) (rows : List StoreRow) (new : NewPaths) : Type 0 where
  pub paths : new.spent ≡ false → (s.paths ++ a.added.paths) ++ new.fresh.paths ≡ paths_after rows (s.paths ++ a.added.paths)
  pub few : new.spent ≡ false → length s.paths + length a.added.paths + length new.fresh.paths ≤ 1000
  pub spent : new.spent ≡ true → paths_spent (paths_after rows (s.paths ++ a.added.paths)) ≡ Some PathsSpent

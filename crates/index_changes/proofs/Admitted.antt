-- Documents that are being admitted.
use Rattle.std.proofs.Common.{◌≡◌, List, None, map, refl}
use Rattle.doc_store.specs.declared.rows.StoreRow.{StoreRow}
use Rattle.doc_store.specs.declared.admitting.Admitting.{Admitting}
use Rattle.doc_store.specs.Admitting.{IsAdmitting}
use Rattle.path_registry.specs.Names.{Names}
use Rattle.doc_store.specs.Store.{Store, all_stored, spent}
use Rattle.doc_store.proofs.AdmittingLemmas.{admitted_whole}

-- the store may take them
pub admitting-within : (ids : Names) (s : Store) (before : List StoreRow) (a : Admitting) → IsAdmitting ids s before a → spent (all_stored before s) ≡ None
admitting-within ids s before a h = (admitted_whole ids s before a (record { ids = map (λ id. id.0) a.ids.items; added = a.added.paths }) h refl refl).within

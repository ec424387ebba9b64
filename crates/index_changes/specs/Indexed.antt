-- What an index keeps of its documents so that no search reads one.
use Rattle.std.specs.Prelude.{◌≡◌, List}
use Rattle.doc_index.specs.Documents.{documents_of}
use Rattle.doc_store.specs.Store.{Store}
use Rattle.doc_store.specs.Sound.{IsSound}
use Rattle.index_settings.specs.View.{SettingsView}
use Rattle.row_index.specs.Changes.{IsTight}
use Rattle.row_index.specs.Documents.{IndexedDocument}
use Rattle.row_index.specs.Standing.{StandsFor}
use Rattle.search_settings.specs.Uses.{uses_from}
use Rattle.index_changes.specs.declared.kept.KeptRows.{KeptRows}

-- the documents of a store with what a search sees of them, under these settings
abbrev pub indexed_of : SettingsView → Store → List IndexedDocument
indexed_of settings s = documents_of s.paths (uses_from settings 0 s.paths) s.rows

-- the store is sound, the rows are those of its documents, no list of them is empty, and paths are used as the settings
-- say
pub record IsIndexed (kept : KeptRows) (settings : SettingsView) (s : Store) : Type 0 where
  pub stands : StandsFor kept.rows (indexed_of settings s)
  pub tight : IsTight kept.rows
  pub uses : kept.uses.items ≡ uses_from settings 0 s.paths
  pub sound : IsSound s

-- What holds of an index beside what contracts see of it.
use Rattle.std.specs.Prelude.{◌≡◌, ℕ, List, [], Option}
use Rattle.doc_store.specs.StoreView.{StoreView}
use Rattle.index_settings.specs.View.{SettingsView}
use Rattle.index_changes.specs.declared.kept.KeptRows.{KeptRows}
use Rattle.index_changes.specs.Indexed.{IsIndexed}
use Rattle.index_changes.specs.Keyed.{IsKeyed}
use Rattle.search_settings.specs.QueryWords.{QueryWordsView, AreWordsOf}

-- the documents stand under the key, what is kept and the words are those of the store and the settings, and no document
-- is staged
pub record IsWhole (key : Option (List ℕ)) (store : StoreView) (settings : SettingsView) (query_words : QueryWordsView)
    (kept : KeptRows) : Type 0 where
  pub keyed : IsKeyed key store.content.rows
  pub rows : IsIndexed kept settings store.content
  pub words : AreWordsOf query_words settings
  pub no_documents : store.staged ≡ []

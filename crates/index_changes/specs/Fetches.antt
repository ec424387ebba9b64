-- How many stored documents a change has to read.
use Rattle.std.specs.Prelude.{ℕ, ◌≡◌, List, length, codes, None, if◌then◌else◌}
use Rattle.serde_json.specs.Data.{Data}
use Rattle.serde_json.specs.Find.{get}
use Rattle.doc_store.specs.Store.{externals}
use Rattle.doc_index.specs.Named.{named}
use Rattle.index_settings.specs.View.{SettingsView}
use Rattle.index_settings.specs.Table.{defaults}
use Rattle.index_settings.specs.Patch.{patched}
use Rattle.index_changes.specs.Index.{Index}
use Rattle.search_settings.specs.Uses.{use_alike}
use Rattle.index_changes.specs.PlanView.{Work, replace, update, remove, clear, patch, reset}

-- a patch names none of the members that say how paths are used
pub record LeavesUses (members : Data) : Type 0 where
  pub searchable : get (codes "searchableAttributes") members ≡ None
  pub filterable : get (codes "filterableAttributes") members ≡ None
  pub sortable : get (codes "sortableAttributes") members ≡ None
  pub rules : get (codes "rankingRules") members ≡ None

-- a patch names none of the members that give words
pub record LeavesWords (members : Data) : Type 0 where
  pub stop_words : get (codes "stopWords") members ≡ None
  pub synonyms : get (codes "synonyms") members ≡ None

-- all documents, where these settings use some path of the index otherwise than the index does
abbrev pub needed_under : SettingsView → Index → ℕ
needed_under settings index = if use_alike settings index.settings index.store.paths then 0 else length index.store.rows

-- the documents that some external ids name
abbrev pub named_needed : List (List ℕ) → Index → ℕ
named_needed ids index = length (named ids index.store.rows)

-- A change of documents reads each stored document that it names once, and settings that use some path otherwise read
-- each document once; no other change reads one.
abbrev pub needed : Work → Index → ℕ
needed (replace rows) index = named_needed (externals rows) index
needed (update rows) index = named_needed (externals rows) index
needed (remove ids) index = named_needed ids index
needed clear index = 0
needed (patch members) index = needed_under (patched defaults index.settings members) index
needed reset index = needed_under defaults index

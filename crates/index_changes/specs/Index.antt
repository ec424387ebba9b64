-- An index: its primary key, what it holds, and its settings.
use Rattle.std.specs.Prelude.{ℕ, List, [], ◌∷◌, map, Option, None, Some, refl, bytes_eq, if◌then◌else◌}
use Rattle.std.specs.Coded.{Coded, code_by, coded×, coded_ℕ, coded_list, coded_option}
use Rattle.serde_json.specs.Data.{Data}
use Rattle.doc_store.specs.Store.{Row, Store}
use Rattle.doc_store.specs.Codes.{store_code}
use Rattle.index_settings.specs.View.{SettingsView}
use Rattle.index_settings.specs.Table.{defaults}
use Rattle.index_changes.specs.Codes.{settings_code}

pub record Index : Type 0 where
  pub key : Option (List ℕ)
  pub store : Store
  pub settings : SettingsView

-- no key, nothing stored, and the settings of a new index
abbrev pub empty_index : Index
empty_index = record { key = None; store = record { paths = []; next_id = 0; rows = [] }; settings = defaults }

-- the documents, in the order of their internal ids
abbrev pub documents : Index → List Data
documents index = map (λ r. r.document) index.store.rows

-- the document with an external id
abbrev pub document_under : List ℕ → List Row → Option Data
document_under external [] = None
document_under external (r ∷ rows) =
    if bytes_eq external r.external then Some r.document else document_under external rows

-- how the logic stores an index
abbrev pub index_code : Coded Index
index_code =
    code_by (Option (List ℕ) × (Store × SettingsView))
    (coded× (coded_option (coded_list coded_ℕ)) (coded× store_code settings_code))
    (λ i. (i.key, (i.store, i.settings))) (λ p. record { key = p.0; store = p.1.0; settings = p.1.1 }) (λ _. refl)

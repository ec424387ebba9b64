-- What a change does to an index.
use Rattle.std.specs.Prelude.{◌≡◌, ℕ, ◌+◌, List, [], ◌∷◌, Option, Some, None, Result, Ok, Err, bytes_eq, if◌then◌else◌}
use Rattle.serde_json.specs.Data.{Data}
use Rattle.document_changes.specs.Changes.{KindData}
use Rattle.document_changes.specs.Changes as kind
use Rattle.doc_values.specs.Ids.{external_id_of, key_of}
use Rattle.doc_values.specs.Stored.{merge}
use Rattle.doc_store.specs.declared.rows.StoreRow.{StoreRow}
use Rattle.doc_store.specs.declared.rows.StoreRefusal.{StoreRefusal}
use Rattle.doc_store.specs.Store.{Store, stored, all_stored, spent}
use Rattle.doc_index.specs.Left.{without_named, without_all}
use Rattle.index_settings.specs.declared.fault.SettingsRefusal.{SettingsRefusal}
use Rattle.index_settings.specs.View.{SettingsView}
use Rattle.index_settings.specs.Table.{defaults, patch_fault}
use Rattle.index_settings.specs.Patch.{patched}
use Rattle.index_changes.specs.Index.{Index, document_under}
use Rattle.index_changes.specs.PlanView.{PlanView, Work, replace, update, remove, clear, patch, reset}
use Rattle.index_changes.specs.Refusals.{key_refusal, id_refusal, store_refusal}
use Rattle.index_changes.specs.declared.refusal.CoreRefusal.{CoreRefusal}
use Rattle.index_changes.specs.declared.refusal.CoreRefusal.TheVariants.{KeyDiffers, Settings}
use Rattle.search_base.specs.Trying.{◌>>=◌, refused_as}

-- ---- what is tried before anything changes

-- The key after a change: that of the index, of which the given one may not differ, or else the given one, or else
-- the one that the first document gives.
abbrev pub key_for : Option (List ℕ) → Option (List ℕ) → List Data → Result (Option (List ℕ)) CoreRefusal
key_for (Some own) (Some given) ds = if bytes_eq own given then Ok (Some own) else Err KeyDiffers
key_for (Some own) None ds = Ok (Some own)
key_for None (Some given) ds = Ok (Some given)
key_for None None [] = Ok None
key_for None None (d ∷ ds) = refused_as key_refusal (key_of d) >>= (λ name. Ok (Some name))

-- the documents from a place on, each with the external id that it gives under the key
abbrev pub rows_under : List ℕ → ℕ → List Data → Result (List StoreRow) CoreRefusal
rows_under key place [] = Ok []
rows_under key place (d ∷ ds) = do
  external ← refused_as (id_refusal place) (external_id_of key d)
  rows ← rows_under key (place + 1) ds
  Ok (record { external = external; document = d } ∷ rows)

-- the same from the first place on; with no key there are no documents
abbrev pub rows_for : Option (List ℕ) → List Data → Result (List StoreRow) CoreRefusal
rows_for None ds = Ok []
rows_for (Some key) ds = rows_under key 1 ds

abbrev pub plan_of : Option (List ℕ) → Work → PlanView
plan_of key work = record { key = key; work = work }

-- the key of a change is tried, and then the id of each document
abbrev pub documents_planned : Option (List ℕ) → Option (List ℕ) → List Data → (List StoreRow → Work)
    → Result PlanView CoreRefusal
documents_planned own given ds work = do
  key ← key_for own given ds
  rows ← rows_for key ds
  Ok (plan_of key (work rows))

-- the members of a patch, unless it is refused
abbrev pub patch_planned : Option (List ℕ) → Data → Option SettingsRefusal → Result PlanView CoreRefusal
patch_planned key members None = Ok (plan_of key (patch members))
patch_planned key members (Some refusal) = Err (Settings refusal)

-- One equation a kind of change. A change that makes an index or takes it away does nothing here.
abbrev pub planned : Index → KindData → Result PlanView CoreRefusal
planned index (kind.replace given ds) = documents_planned index.key given ds replace
planned index (kind.update given ds) = documents_planned index.key given ds update
planned index (kind.remove ids) = Ok (plan_of index.key (remove ids))
planned index kind.clear = Ok (plan_of index.key clear)
planned index (kind.patch members) = patch_planned index.key members (patch_fault members)
planned index kind.reset = Ok (plan_of index.key reset)
planned index other = Ok (plan_of index.key (replace []))

-- the key that an index has stays its key
abbrev pub Keeps : Option (List ℕ) → Option (List ℕ) → Type 0
Keeps None key = Unit {0}
Keeps (Some own) key = key ≡ Some own

-- The plan may be applied to the index. A plan that the index made stays so while the index takes no other change.
pub record IsPlanFor (plan : PlanView) (index : Index) : Type 0 where
  pub key : Keeps index.key plan.key

-- ---- what changes

-- the document that an update leaves where one of its external id is stored
abbrev pub over : Option Data → Data → Data
over None new = new
over (Some old) new = merge old new

-- the document with the members that it does not name of the stored one
abbrev pub updating : StoreRow → Store → StoreRow
updating new s = record { external = new.external; document = over (document_under new.external s.rows) new.document }

-- documents stored one after the other, each over the one that is stored by then
abbrev pub all_updated : List StoreRow → Store → Store
all_updated [] s = s
all_updated (r ∷ rs) s = all_updated rs (stored (updating r s) s)

abbrev pub after_work : Work → Store → Store
after_work (replace rows) s = all_stored rows s
after_work (update rows) s = all_updated rows s
after_work (remove ids) s = without_named ids s
after_work clear s = without_all s
after_work (patch members) s = s
after_work reset s = s

abbrev pub settings_after : Work → SettingsView → SettingsView
settings_after (replace rows) old = old
settings_after (update rows) old = old
settings_after (remove ids) old = old
settings_after clear old = old
settings_after (patch members) old = patched defaults old members
settings_after reset old = defaults

abbrev pub unless_spent : Index → Option StoreRefusal → Result Index CoreRefusal
unless_spent after None = Ok after
unless_spent after (Some refusal) = Err (store_refusal refusal)

-- the index after a plan, unless ids or paths are spent
abbrev pub applied : PlanView → Index → Result Index CoreRefusal
applied plan index =
    let after = after_work plan.work index.store in
    unless_spent (record { key = plan.key; store = after; settings = settings_after plan.work index.settings })
    (spent after)

-- The numbers by which a change that is accepted may be refused: those of the refusals of tasks.
use Rattle.std.proofs.Common.{◌≡◌, ◌≢◌, ℕ, ◌+◌, List, [], ◌∷◌, Bool, true, false, cond, Option, None, Some, Result, Ok, Err, refl, sym, ap, subst, ◌∙◌, arith}
use Rattle.std.specs.Prelude.{◌&&◌, IfErr, is_none, is_some, bytes_eq, unwrap_or}
use Rattle.std.proofs.lemmas.Bool.{and_parts}
use Rattle.search_base.specs.Trying.{◌>>=◌, ◌>>◌, refuse_if, or_refuse, refused_as}
use Rattle.serde_json.specs.Data.{Data}
use Rattle.document_changes.specs.Changes.{KindData, create, drop_index, replace, update, remove, clear, patch, reset, ChangeData}
use Rattle.doc_values.specs.Ids.{is_uid, external_id_of, key_of}
use Rattle.doc_values.specs.declared.ids.IdRefusal.{IdRefusal}
use Rattle.doc_values.specs.declared.ids.IdRefusal.TheVariants as id
use Rattle.doc_values.specs.declared.keys.KeyRefusal.{KeyRefusal}
use Rattle.doc_values.specs.declared.keys.KeyRefusal.TheVariants as key
use Rattle.doc_store.specs.declared.rows.StoreRow.{StoreRow}
use Rattle.doc_store.specs.declared.rows.StoreRefusal.{StoreRefusal}
use Rattle.doc_store.specs.declared.rows.StoreRefusal.TheVariants as store
use Rattle.doc_store.specs.Store.{spent}
use Rattle.index_settings.specs.declared.fault.SettingsRefusal.{SettingsRefusal}
use Rattle.index_settings.specs.Table.{patch_fault}
use Rattle.index_changes.specs.declared.refusal.CoreRefusal.{CoreRefusal}
use Rattle.index_changes.specs.declared.refusal.CoreRefusal.TheVariants.{KeyDiffers}
use Rattle.index_changes.specs.Index.{Index}
use Rattle.index_changes.specs.PlanView.{PlanView, Work}
use Rattle.index_changes.specs.PlanView as work
use Rattle.index_changes.specs.Plans.{key_for, rows_under, rows_for, plan_of, documents_planned, patch_planned, planned, after_work, settings_after, unless_spent, applied}
use Rattle.request_refusals.specs.Tasks.{row_of}
use Rattle.request_refusals.specs.declared.tasks.TaskRefusal.{TaskRefusal}
use Rattle.request_refusals.specs.declared.tasks.TaskRefusal.TheVariants as task
use Rattle.index_changes.specs.Refusals.{key_refusal, id_refusal, store_refusal}
use Rattle.named_indexes.specs.Indexes.{Indexes, index_at, index_or_empty, with_index, is_full}
use Rattle.named_indexes.specs.Changes.{row_in, index_after, created, dropped, filled, emptied, indexes_after, changed}
use Rattle.named_indexes.specs.Payloads.{Accepts, is_good_kind}

-- `P` holds of the number of each refusal of a task
module _ (P : ℕ → Type 0) (each : (why : TaskRefusal) → P (row_of why)) where
  -- the number of the refusal of an index is one of them
  abbrev Named : {A : Type 0} → Result A CoreRefusal → Type 0
  Named r = IfErr r (λ why. P (row_in why))

  -- the same of numbers
  abbrev Numbered : {A : Type 0} → Result A ℕ → Type 0
  Numbered r = IfErr r P

  -- ---- what a plan refuses

  bind_named : {A B : Type 0} (r : Result A CoreRefusal) (f : A → Result B CoreRefusal) → Named r → ((x : A) → Named (f x)) → Named (r >>= f)
  bind_named (Ok x) f first later = later x
  bind_named (Err why) f first later = first

  key_named : (r : Result (List ℕ) KeyRefusal) → Named (refused_as key_refusal r)
  key_named (Ok name) = tt
  key_named (Err key.NoCandidate) = each task.NoCandidate
  key_named (Err (key.SeveralCandidates count)) = each task.SeveralCandidates

  id_named : (place : ℕ) (r : Result (List ℕ) IdRefusal) → Named (refused_as (id_refusal place) r)
  id_named place (Ok external) = tt
  id_named place (Err id.MissingId) = each task.MissingId
  id_named place (Err id.BadId) = each task.BadId

  same_key : (own : List ℕ) (same : Bool) → Named (cond same (Ok (Some own)) (Err KeyDiffers))
  same_key own true = tt
  same_key own false = each task.KeyDiffers

  keys_named : (own given : Option (List ℕ)) (ds : List Data) → Named (key_for own given ds)
  keys_named (Some own) (Some given) ds = same_key own (bytes_eq own given)
  keys_named (Some own) None ds = tt
  keys_named None (Some given) ds = tt
  keys_named None None [] = tt
  keys_named None None (d ∷ ds) = bind_named (refused_as key_refusal (key_of d)) (λ name. Ok (Some name)) (key_named (key_of d)) (λ name. tt)

  under_named : (key : List ℕ) (place : ℕ) (ds : List Data) → Named (rows_under key place ds)
  under_named key place [] = tt
  under_named key place (d ∷ ds) =
      bind_named (refused_as (id_refusal place) (external_id_of key d))
      (λ external. rows_under key (place + 1) ds >>= λ rows. Ok (record { external = external; document = d } ∷ rows))
      (id_named place (external_id_of key d))
      (λ external. bind_named (rows_under key (place + 1) ds) (λ rows. Ok (record { external = external; document = d } ∷ rows)) (under_named key (place + 1) ds) (λ rows. tt))

  rows_named : (key : Option (List ℕ)) (ds : List Data) → Named (rows_for key ds)
  rows_named None ds = tt
  rows_named (Some key) ds = under_named key 1 ds

  documents_named : (own given : Option (List ℕ)) (ds : List Data) (does : List StoreRow → Work) → Named (documents_planned own given ds does)
  documents_named own given ds does =
      bind_named (key_for own given ds) (λ key. rows_for key ds >>= λ rows. Ok (plan_of key (does rows))) (keys_named own given ds)
      (λ key. bind_named (rows_for key ds) (λ rows. Ok (plan_of key (does rows))) (rows_named key ds) (λ rows. tt))

  patch_named : (key : Option (List ℕ)) (members : Data) (fault : Option SettingsRefusal) → is_none fault ≡ true → Named (patch_planned key members fault)
  patch_named key members None good = tt
  patch_named key members (Some why) good = absurd (cc)

  planned_named : (i : Index) (k : KindData) → is_good_kind k ≡ true → Named (planned i k)
  planned_named i (create key) good = tt
  planned_named i drop_index good = tt
  planned_named i (replace given ds) good = documents_named i.key given ds work.replace
  planned_named i (update given ds) good = documents_named i.key given ds work.update
  planned_named i (remove ids) good = tt
  planned_named i clear good = tt
  planned_named i (patch members) good = patch_named i.key members (patch_fault members) good
  planned_named i reset good = tt

  spent_named : (after : Index) (why : Option StoreRefusal) → Named (unless_spent after why)
  spent_named after None = tt
  spent_named after (Some store.IdsSpent) = each task.IdsSpent
  spent_named after (Some store.PathsSpent) = each task.PathsSpent

  applied_named : (plan : PlanView) (i : Index) → Named (applied plan i)
  applied_named plan i =
      spent_named (record { key = plan.key; store = after_work plan.work i.store; settings = settings_after plan.work i.settings }) (spent (after_work plan.work i.store))

  -- ---- what the indexes refuse

  as_numbers : {A : Type 0} (r : Result A CoreRefusal) → Named r → Numbered (refused_as row_in r)
  as_numbers (Ok x) is = tt
  as_numbers (Err why) is = is

  bind_numbered : {A B : Type 0} (r : Result A ℕ) (f : A → Result B ℕ) → Numbered r → ((x : A) → Numbered (f x)) → Numbered (r >>= f)
  bind_numbered (Ok x) f first later = later x
  bind_numbered (Err row) f first later = first

  refused_numbered : {A : Type 0} (refused : Bool) (why : TaskRefusal) (r : Result A ℕ) → Numbered r → Numbered (refuse_if refused (row_of why) >> r)
  refused_numbered true why r rest = each why
  refused_numbered false why r rest = rest

  or_numbered : {A : Type 0} (why : TaskRefusal) (o : Option A) → Numbered (or_refuse (row_of why) o)
  or_numbered why None = each why
  or_numbered why (Some x) = tt

  index_numbered : (full : Bool) (i : Index) (k : KindData) → is_good_kind k ≡ true → Numbered (index_after full i k)
  index_numbered full i k good =
      bind_numbered (refused_as row_in (planned i k)) (λ plan. refuse_if full (row_of task.IndexesSpent) >> refused_as row_in (applied plan i)) (as_numbers (planned i k) (planned_named i k good))
      (λ plan. refused_numbered full task.IndexesSpent (refused_as row_in (applied plan i)) (as_numbers (applied plan i) (applied_named plan i)))

  created_numbered : (es : Indexes) (uid : List ℕ) (key : Option (List ℕ)) → Numbered (created es uid key)
  created_numbered es uid key =
      refused_numbered (is_some (index_at uid es)) task.IndexExists _ (refused_numbered (is_full es) task.IndexesSpent _ tt)

  dropped_numbered : (es : Indexes) (uid : List ℕ) → Numbered (dropped es uid)
  dropped_numbered es uid = bind_numbered (or_refuse (row_of task.NoIndex) (index_at uid es)) _ (or_numbered task.NoIndex (index_at uid es)) (λ i. tt)

  filled_numbered : (es : Indexes) (uid : List ℕ) (k : KindData) → is_good_kind k ≡ true → Numbered (filled es uid k)
  filled_numbered es uid k good =
      bind_numbered (index_after (is_none (index_at uid es) && is_full es) (index_or_empty uid es) k) (λ i. Ok (with_index uid i es))
      (index_numbered (is_none (index_at uid es) && is_full es) (index_or_empty uid es) k good) (λ i. tt)

  emptied_numbered : (es : Indexes) (uid : List ℕ) (k : KindData) → is_good_kind k ≡ true → Numbered (emptied es uid k)
  emptied_numbered es uid k good =
      bind_numbered (or_refuse (row_of task.NoIndex) (index_at uid es)) (λ old. index_after false old k >>= λ i. Ok (with_index uid i es)) (or_numbered task.NoIndex (index_at uid es))
      (λ old. bind_numbered (index_after false old k) (λ i. Ok (with_index uid i es)) (index_numbered false old k good) (λ i. tt))

  all_numbered : (es : Indexes) (uid : List ℕ) (k : KindData) → is_good_kind k ≡ true → Numbered (indexes_after es uid k)
  all_numbered es uid (create key) good = created_numbered es uid key
  all_numbered es uid drop_index good = dropped_numbered es uid
  all_numbered es uid (replace given ds) good = filled_numbered es uid (replace given ds) good
  all_numbered es uid (update given ds) good = filled_numbered es uid (update given ds) good
  all_numbered es uid (remove ids) good = emptied_numbered es uid (remove ids) good
  all_numbered es uid clear good = emptied_numbered es uid clear good
  all_numbered es uid (patch members) good = filled_numbered es uid (patch members) good
  all_numbered es uid reset good = emptied_numbered es uid reset good

  -- the row of a change that is refused is one of them
  pub refused_by : (uid : List ℕ) (kind : ℕ) (c : ChangeData) (es : Indexes) → Accepts uid kind c → IfErr (changed uid c es) P
  refused_by uid kind c es accepted = all_numbered es uid c.kind (and_parts (is_uid c.uid) (is_good_kind c.kind) accepted.good).1

-- ---- none of them is 0

some_row : (why : TaskRefusal) → row_of why ≢ 0
some_row task.NoIndex is = omega (arith, is)
some_row task.IndexExists is = omega (arith, is)
some_row task.KeyDiffers is = omega (arith, is)
some_row task.NoCandidate is = omega (arith, is)
some_row task.SeveralCandidates is = omega (arith, is)
some_row task.MissingId is = omega (arith, is)
some_row task.BadId is = omega (arith, is)
some_row task.IndexesSpent is = omega (arith, is)
some_row task.IdsSpent is = omega (arith, is)
some_row task.PathsSpent is = omega (arith, is)

not_zero : {A : Type 0} (r : Result A ℕ) → IfErr r (λ row. row ≢ 0) → r ≢ Err 0
not_zero (Ok x) is same = absurd (cc)
not_zero (Err row) is same = let zero : row ≡ 0 = cc in is zero

pub numbered : (uid : List ℕ) (kind : ℕ) (c : ChangeData) (es : Indexes) → Accepts uid kind c → changed uid c es ≢ Err 0
numbered uid kind c es accepted = not_zero (changed uid c es) (refused_by (λ row. row ≢ 0) some_row uid kind c es accepted)

-- What stays of an index whatever change it takes.
use Rattle.std.proofs.Common.{◌≡◌, ℕ, ◌<◌, ◌≤◌, ◌==◌, Bool, true, false, cond, List, [], ◌∷◌, ◌++◌, suc, length, map, filter, Option, None, Some, Result, Ok, Err, refl, sym, ap, subst, ◌∙◌, arith, bytes_eq, append_assoc, append-nil}
use Rattle.std.specs.Prelude.{not}
use Rattle.std.proofs.lemmas.Bool.{cond-true, cond-false, cond_both}
use Rattle.serde_json.specs.Data.{Data}
use Rattle.document_changes.specs.Changes.{KindData}
use Rattle.document_changes.specs.Changes as kind
use Rattle.doc_values.specs.Walk.{paths_of}
use Rattle.doc_store.specs.declared.rows.StoreRow.{StoreRow}
use Rattle.doc_store.specs.declared.rows.StoreRefusal.{StoreRefusal}
use Rattle.path_registry.specs.Paths.{has_path, with_path, registered}
use Rattle.doc_store.specs.Store.{Row, Store, row_at, stored, all_stored, spent}
use Rattle.doc_store.proofs.LawLemmas.{never_given_again}
use Rattle.doc_store.proofs.RowLemmas.{next_id-grows}
use Rattle.doc_index.specs.Named.{is_named}
use Rattle.index_settings.specs.declared.fault.SettingsRefusal.{SettingsRefusal}
use Rattle.index_settings.specs.View.{SettingsView}
use Rattle.index_settings.specs.Table.{defaults, patch_fault}
use Rattle.index_settings.specs.Patch.{patched}
use Rattle.search_base.specs.Trying.{◌>>=◌}
use Rattle.search_settings.specs.Uses.{use_alike}
use Rattle.index_changes.specs.declared.refusal.CoreRefusal.{CoreRefusal}
use Rattle.index_changes.specs.declared.refusal.CoreRefusal.TheVariants.{KeyDiffers}
use Rattle.index_changes.specs.Index.{Index, documents}
use Rattle.index_changes.specs.PlanView.{PlanView, Work, replace, update, remove, clear, patch, reset}
use Rattle.index_changes.specs.Plans.{key_for, rows_for, plan_of, documents_planned, patch_planned, planned, after_work, settings_after, unless_spent, applied}
use Rattle.index_changes.specs.Fetches.{needed_under}
use Rattle.index_changes.specs.Laws.{KeyStays, PathsStay, IdsAreSpentOnce, SettingsReadOnce}
use Rattle.index_changes.proofs.Updating.{merged_rows, merged-stored}

-- ---- the key

pub bind_ok : {A B : Type 0} (r : Result A CoreRefusal) (f : A → Result B CoreRefusal) (y : B) → r >>= f ≡ Ok y → (x : A) × (r ≡ Ok x) × (f x ≡ Ok y)
bind_ok (Ok x) f y h = (x, refl, h)
bind_ok (Err fault) f y h = absurd (cc)

key_at : (same : Bool) (own : List ℕ) (key : Option (List ℕ)) → cond same (Ok (Some own)) (Err KeyDiffers) ≡ Ok key → Some own ≡ key
key_at true own key h = cc
key_at false own key h = cc

pub key_kept : (own : List ℕ) (given : Option (List ℕ)) (ds : List Data) (key : Option (List ℕ)) → key_for (Some own) given ds ≡ Ok key → Some own ≡ key
key_kept own None ds key h = cc
key_kept own (Some given) ds key h = key_at (bytes_eq own given) own key h

key_documents : (own : List ℕ) (given : Option (List ℕ)) (ds : List Data) (work : List StoreRow → Work) (plan : PlanView) → documents_planned (Some own) given ds work ≡ Ok plan → plan.key ≡ Some own
key_documents own given ds work plan h =
    let a = bind_ok (key_for (Some own) given ds) (λ key. rows_for key ds >>= (λ rows. Ok (plan_of key (work rows)))) plan h in
    let b = bind_ok (rows_for a.0 ds) (λ rows. Ok (plan_of a.0 (work rows))) plan a.2 in
    let same : plan_of a.0 (work b.0) ≡ plan = (let e = b.2 in cc) in
    ap (λ (p : PlanView). p.key) (sym same) ∙ sym (key_kept own given ds a.0 a.1)

abbrev found_good : PlanView → Result PlanView CoreRefusal
found_good plan = Ok plan

key_same : (key : Option (List ℕ)) (work : Work) (plan : PlanView) → found_good (plan_of key work) ≡ Ok plan → plan.key ≡ key
key_same key work plan h = let same : plan_of key work ≡ plan = cc in ap (λ (p : PlanView). p.key) (sym same)

key_patched : (key : Option (List ℕ)) (members : Data) (fault : Option SettingsRefusal) (plan : PlanView) → patch_planned key members fault ≡ Ok plan → plan.key ≡ key
key_patched key members None plan h = key_same key (patch members) plan h
key_patched key members (Some fault) plan h = absurd (cc)

key_planned : (index : Index) (change : KindData) (plan : PlanView) (own : List ℕ) → index.key ≡ Some own → planned index change ≡ Ok plan → plan.key ≡ Some own
key_planned index (kind.replace given ds) plan own is h = key_documents own given ds replace plan (subst (λ k. documents_planned k given ds replace ≡ Ok plan) is h)
key_planned index (kind.update given ds) plan own is h = key_documents own given ds update plan (subst (λ k. documents_planned k given ds update ≡ Ok plan) is h)
key_planned index (kind.remove ids) plan own is h = key_same index.key (remove ids) plan h ∙ is
key_planned index kind.clear plan own is h = key_same index.key clear plan h ∙ is
key_planned index (kind.create key) plan own is h = key_same index.key (replace []) plan h ∙ is
key_planned index kind.drop_index plan own is h = key_same index.key (replace []) plan h ∙ is
key_planned index (kind.patch d) plan own is h = key_patched index.key d (patch_fault d) plan h ∙ is
key_planned index kind.reset plan own is h = key_same index.key reset plan h ∙ is

unless_ok : (index after : Index) (fault : Option StoreRefusal) → unless_spent index fault ≡ Ok after → index ≡ after
unless_ok index after None h = cc
unless_ok index after (Some fault) h = cc

abbrev pub after_plan : PlanView → Index → Index
after_plan plan index = record { key = plan.key; store = after_work plan.work index.store; settings = settings_after plan.work index.settings }

pub applied-is : (plan : PlanView) (index after : Index) → applied plan index ≡ Ok after → after_plan plan index ≡ after
applied-is plan index after h = unless_ok (after_plan plan index) after (spent (after_work plan.work index.store)) h

pub key_stays : KeyStays
key_stays index after change key is takes =
    ap (λ (i : Index). i.key) (sym (applied-is takes.plan index after takes.is_applied)) ∙ key_planned index change takes.plan key is takes.is_planned

-- ---- the registry

abbrev Grows : List (List ℕ) → List (List ℕ) → Type 0
Grows paths after = (more : List (List ℕ)) × (after ≡ paths ++ more)

grows-same : (paths : List (List ℕ)) → Grows paths paths
grows-same paths = ([], sym (append-nil paths))

grows-on : (a b c : List (List ℕ)) → Grows a b → Grows b c → Grows a c
grows-on a b c g h = (g.0 ++ h.0, h.1 ∙ ap (λ v. v ++ h.0) g.1 ∙ append_assoc a g.0 h.0)

grows-with : (path : List ℕ) (paths : List (List ℕ)) → Grows paths (with_path path paths)
grows-with path paths = cond_both (has_path path paths) paths (paths ++ path ∷ []) (Grows paths) (λ _. grows-same paths) (λ _. (path ∷ [], refl))

grows-registered : (new paths : List (List ℕ)) → Grows paths (registered new paths)
grows-registered [] paths = grows-same paths
grows-registered (path ∷ new) paths = grows-on paths (with_path path paths) (registered new (with_path path paths)) (grows-with path paths) (grows-registered new (with_path path paths))

grows-stored : (rs : List StoreRow) (s : Store) → Grows s.paths (all_stored rs s).paths
grows-stored [] s = grows-same s.paths
grows-stored (r ∷ rs) s = grows-on s.paths (stored r s).paths (all_stored rs (stored r s)).paths (grows-registered (paths_of r.document) s.paths) (grows-stored rs (stored r s))

grows-work : (work : Work) (s : Store) → Grows s.paths (after_work work s).paths
grows-work (replace rows) s = grows-stored rows s
grows-work (update rows) s = subst (λ (t : Store). Grows s.paths t.paths) (sym (merged-stored rows s)) (grows-stored (merged_rows rows s) s)
grows-work (remove ids) s = grows-same s.paths
grows-work clear s = grows-same s.paths
grows-work (patch members) s = grows-same s.paths
grows-work reset s = grows-same s.paths

pub paths_stay : PathsStay
paths_stay index after change takes = subst (λ (i : Index). Grows index.store.paths i.store.paths) (applied-is takes.plan index after takes.is_applied) (grows-work takes.plan.work index.store)

-- ---- internal ids

absent-filter : (p : Row → Bool) (id : ℕ) (rows : List Row) → row_at id rows ≡ None → row_at id (filter p rows) ≡ None
absent-filter p id [] h = refl
absent-filter p id (r ∷ rows) h = by (id == r.id) refl (absent-filter p id rows)
  where
    by : (b : Bool) → (id == r.id) ≡ b → (row_at id rows ≡ None → row_at id (filter p rows) ≡ None) → row_at id (filter p (r ∷ rows)) ≡ None
    by true e again = absurd (let bad = sym (cond-true (id == r.id) (Some r) (row_at id rows) e) ∙ h in cc)
    by false e again =
        let rest = sym (cond-false (id == r.id) (Some r) (row_at id rows) e) ∙ h in
        cond_both (p r) (r ∷ filter p rows) (filter p rows) (λ v. row_at id v ≡ None) (λ _. cond-false (id == r.id) _ _ e ∙ again rest) (λ _. again rest)

abbrev Spent : ℕ → Store → Store → Type 0
Spent id s after = (s.next_id ≤ after.next_id) × (row_at id after.rows ≡ None)

spent-work : (work : Work) (s : Store) (id : ℕ) → id < s.next_id → row_at id s.rows ≡ None → Spent id s (after_work work s)
spent-work (replace rows) s id low gone = (next_id-grows rows s, never_given_again rows s id low gone)
spent-work (update rows) s id low gone = subst (Spent id s) (sym (merged-stored rows s)) (next_id-grows (merged_rows rows s) s, never_given_again (merged_rows rows s) s id low gone)
spent-work (remove ids) s id low gone = (omega arith, absent-filter (λ r. not (is_named ids r)) id s.rows gone)
spent-work clear s id low gone = (omega arith, refl)
spent-work (patch members) s id low gone = (omega arith, gone)
spent-work reset s id low gone = (omega arith, gone)

pub ids_are_spent_once : IdsAreSpentOnce
ids_are_spent_once index after change id takes low gone = subst (λ (i : Index). Spent id index.store i.store) (applied-is takes.plan index after takes.is_applied) (spent-work takes.plan.work index.store id low gone)

-- ---- settings

count-documents : (rows : List Row) → length (map (λ r. r.document) rows) ≡ length rows
count-documents [] = refl
count-documents (r ∷ rows) = ap suc (count-documents rows)

read-once : (settings : SettingsView) (index : Index) → needed_under settings index ≤ length (documents index)
read-once settings index =
    let same = count-documents index.store.rows in
    cond_both (use_alike settings index.settings index.store.paths) 0 (length index.store.rows) (λ n. n ≤ length (documents index)) (λ _. omega arith) (λ _. omega arith)

pub settings_read_once : SettingsReadOnce
settings_read_once index members = (read-once (patched defaults index.settings members) index, read-once defaults index)

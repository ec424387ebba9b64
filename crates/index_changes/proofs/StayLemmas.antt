-- A document stays under its internal id.
use Rattle.std.proofs.Common.{◌≡◌, ℕ, Bool, true, false, List, [], ◌∷◌, filter, Option, None, Some, Result, Ok, refl, sym, ap, subst, ◌∙◌, bytes_eq}
use Rattle.std.specs.Prelude.{not}
use Rattle.std.specs.List.{list_any}
use Rattle.std.proofs.lemmas.Bool.{cond-true, cond-false, cond_both}
use Rattle.serde_json.specs.Data.{Data}
use Rattle.document_changes.specs.Changes.{KindData}
use Rattle.document_changes.specs.Changes as kind
use Rattle.doc_store.specs.declared.rows.StoreRow.{StoreRow}
use Rattle.doc_store.specs.Store.{Row, Store, id_of}
use Rattle.doc_store.proofs.LawLemmas.{ids_stay}
use Rattle.path_registry.proofs.NameLemmas.{same_bytes}
use Rattle.index_settings.specs.declared.fault.SettingsRefusal.{SettingsRefusal}
use Rattle.index_settings.specs.Table.{patch_fault}
use Rattle.search_base.specs.Trying.{◌>>=◌}
use Rattle.index_changes.specs.declared.refusal.CoreRefusal.{CoreRefusal}
use Rattle.doc_index.specs.Named.{is_named}
use Rattle.index_changes.specs.Index.{Index}
use Rattle.index_changes.specs.PlanView.{PlanView, Work, replace, update, remove, clear, patch, reset}
use Rattle.index_changes.specs.Plans.{key_for, rows_for, plan_of, documents_planned, patch_planned, planned, after_work}
use Rattle.index_changes.specs.Laws.{Spares, DocumentsStay}
use Rattle.index_changes.proofs.LawLemmas.{bind_ok, applied-is}
use Rattle.index_changes.proofs.Updating.{merged_rows, merged-stored}

-- the work takes no document with this external id away
abbrev SparesIn : Work → List ℕ → Type 0
SparesIn (replace rows) external = Unit {0}
SparesIn (update rows) external = Unit {0}
SparesIn (remove ids) external = list_any (bytes_eq external) ids ≡ false
SparesIn clear external = ⊥
SparesIn (patch members) external = Unit {0}
SparesIn reset external = Unit {0}

abbrev fine : PlanView → Result PlanView CoreRefusal
fine plan = Ok plan

spared : (external : List ℕ) (key : Option (List ℕ)) (work : Work) (plan : PlanView) → SparesIn work external → fine (plan_of key work) ≡ Ok plan → SparesIn plan.work external
spared external key work plan h is = let same : plan_of key work ≡ plan = cc in subst (λ (p : PlanView). SparesIn p.work external) same h

spared-documents : (external : List ℕ) (own given : Option (List ℕ)) (ds : List Data) (work : List StoreRow → Work) (plan : PlanView) → ((rows : List StoreRow) → SparesIn (work rows) external)
    → documents_planned own given ds work ≡ Ok plan → SparesIn plan.work external
spared-documents external own given ds work plan h is =
    let a = bind_ok (key_for own given ds) (λ key. rows_for key ds >>= (λ rows. Ok (plan_of key (work rows)))) plan is in
    let b = bind_ok (rows_for a.0 ds) (λ rows. Ok (plan_of a.0 (work rows))) plan a.2 in
    spared external a.0 (work b.0) plan (h b.0) b.2

spared-patched : (external : List ℕ) (key : Option (List ℕ)) (members : Data) (fault : Option SettingsRefusal) (plan : PlanView) → patch_planned key members fault ≡ Ok plan → SparesIn plan.work external
spared-patched external key members None plan is = spared external key (patch members) plan tt is
spared-patched external key members (Some fault) plan is = absurd (cc)

spared-planned : (external : List ℕ) (index : Index) (change : KindData) (plan : PlanView) → Spares change external → planned index change ≡ Ok plan → SparesIn plan.work external
spared-planned external index (kind.replace given ds) plan h is = spared-documents external index.key given ds replace plan (λ _. tt) is
spared-planned external index (kind.update given ds) plan h is = spared-documents external index.key given ds update plan (λ _. tt) is
spared-planned external index (kind.remove ids) plan h is = spared external index.key (remove ids) plan h is
spared-planned external index kind.clear plan h is = absurd h
spared-planned external index (kind.create key) plan h is = spared external index.key (replace []) plan tt is
spared-planned external index kind.drop_index plan h is = spared external index.key (replace []) plan tt is
spared-planned external index (kind.patch d) plan h is = spared-patched external index.key d (patch_fault d) plan is
spared-planned external index kind.reset plan h is = spared external index.key reset plan tt is

-- the others go, and it stays where it is
stays-filter : (external : List ℕ) (ids : List (List ℕ)) (rows : List Row) → list_any (bytes_eq external) ids ≡ false → id_of external (filter (λ r. not (is_named ids r)) rows) ≡ id_of external rows
stays-filter external ids [] none = refl
stays-filter external ids (r ∷ rows) none = by (bytes_eq external r.external) refl (stays-filter external ids rows none)
  where
    by : (b : Bool) → b ≡ bytes_eq external r.external → id_of external (filter (λ r. not (is_named ids r)) rows) ≡ id_of external rows → id_of external (filter (λ r. not (is_named ids r)) (r ∷ rows)) ≡ id_of external (r ∷ rows)
    by true s again =
        let stays : not (is_named ids r) ≡ true = ap (λ e. not (list_any (bytes_eq e) ids)) (sym (same_bytes external r.external (sym s))) ∙ ap not none in
        ap (id_of external) (cond-true (not (is_named ids r)) (r ∷ filter (λ r. not (is_named ids r)) rows) (filter (λ r. not (is_named ids r)) rows) stays)
        ∙ cond-true (bytes_eq external r.external) (Some r.id) (id_of external (filter (λ r. not (is_named ids r)) rows)) (sym s) ∙ sym (cond-true (bytes_eq external r.external) (Some r.id) (id_of external rows) (sym s))
    by false s again =
        let other = cond-false (bytes_eq external r.external) (Some r.id) (id_of external rows) (sym s) in
        cond_both (not (is_named ids r)) (r ∷ filter (λ r. not (is_named ids r)) rows) (filter (λ r. not (is_named ids r)) rows) (λ v. id_of external v ≡ id_of external (r ∷ rows))
        (λ _. cond-false (bytes_eq external r.external) (Some r.id) (id_of external (filter (λ r. not (is_named ids r)) rows)) (sym s) ∙ again ∙ sym other) (λ _. again ∙ sym other)

stays-work : (work : Work) (s : Store) (external : List ℕ) (id : ℕ) → SparesIn work external → id_of external s.rows ≡ Some id → id_of external (after_work work s).rows ≡ Some id
stays-work (replace rows) s external id h there = ids_stay rows s external id there
stays-work (update rows) s external id h there = subst (λ (t : Store). id_of external t.rows ≡ Some id) (sym (merged-stored rows s)) (ids_stay (merged_rows rows s) s external id there)
stays-work (remove ids) s external id h there = stays-filter external ids s.rows h ∙ there
stays-work clear s external id h there = absurd h
stays-work (patch members) s external id h there = there
stays-work reset s external id h there = there

pub documents_stay : DocumentsStay
documents_stay index after change external id takes spares there =
    subst (λ (i : Index). id_of external i.store.rows ≡ Some id) (applied-is takes.plan index after takes.is_applied)
    (stays-work takes.plan.work index.store external id (spared-planned external index change takes.plan spares takes.is_planned) there)

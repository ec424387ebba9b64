-- What a search sees of a document stays when the registry grows by paths that the document does not have.
use Rattle.std.proofs.Common.{◌≡◌, ℕ, ◌+◌, Bool, true, false, ◌||◌, List, [], ◌∷◌, ◌++◌, Option, None, Some, refl, sym, ap, ◌∙◌}
use Rattle.std.specs.Prelude.{bytes_eq}
use Rattle.std.proofs.lemmas.Bool.{cond-false, true≢false}
use Rattle.serde_json.specs.Data.{Data}
use Rattle.search_base.specs.RowsView.{RowsView}
use Rattle.doc_values.specs.Walk.{Visit, walk, visited, paths_of}
use Rattle.doc_values.specs.Leaves.{found_at}
use Rattle.doc_rows.specs.declared.path_use.PathUse.{PathUse}
use Rattle.doc_rows.specs.Rows.{no_rows, and_rows, path_rows, rows_from, rows_of}
use Rattle.index_settings.specs.View.{SettingsView}
use Rattle.search_settings.specs.Uses.{use_of, uses_from}
use Rattle.path_registry.proofs.NameLemmas.{same_bytes, bytes_eq-turned}
use Rattle.path_registry.specs.Paths.{has_path}
use Rattle.doc_store.specs.Store.{Row}
use Rattle.doc_store.specs.Sound.{StandOnce, AreRegistered, CoverRows}
use Rattle.doc_index.specs.Documents.{documents_of}
use Rattle.row_index.specs.Documents.{document_with}

-- what a search sees of a document, in an index with these settings and this registry of paths
abbrev rows_with : SettingsView → List (List ℕ) → Data → RowsView
rows_with settings paths document = rows_of document paths (uses_from settings 0 paths)

-- a path that no visit is at holds nothing
found-none : (path : List ℕ) (paths : List (List ℕ)) (visits : List Visit) → has_path path paths ≡ false → AreRegistered (visited visits) paths → found_at path visits ≡ []
found-none path paths [] absent h = refl
found-none path paths (visit ∷ visits) absent h = by (bytes_eq path visit.path) refl (found-none path paths visits absent h.1)
  where
    by : (b : Bool) → bytes_eq path visit.path ≡ b → found_at path visits ≡ [] → found_at path (visit ∷ visits) ≡ []
    by true e rest = absurd (true≢false (sym (ap (λ p. has_path p paths) (same_bytes path visit.path e) ∙ h.0) ∙ absent))
    by false e rest = cond-false _ _ _ e ∙ rest

-- each of these paths is not among the others
abbrev AreAbsent : List (List ℕ) → List (List ℕ) → Type 0
AreAbsent [] paths = Unit {0}
AreAbsent (path ∷ more) paths = (has_path path paths ≡ false) × AreAbsent more paths

no-values : (number : ℕ) (path_use : PathUse) → path_rows number path_use [] ≡ no_rows
no-values number path_use = by path_use.rank path_use.faceted
  where
    by : (rank : Option ℕ) (faceted : Bool) → path_rows number (record { rank = rank; faceted = faceted }) [] ≡ no_rows
    by None true = refl
    by None false = refl
    by (Some rank) true = refl
    by (Some rank) false = refl

rows-none : (st : SettingsView) (number : ℕ) (d : Data) (more paths : List (List ℕ)) → AreAbsent more paths → AreRegistered (paths_of d) paths → rows_from number (walk d) more (uses_from st number more) ≡ no_rows
rows-none st number d [] paths absent h = refl
rows-none st number d (path ∷ more) paths absent h =
    let later = rows_from (number + 1) (walk d) more (uses_from st (number + 1) more) in
    ap (λ values. and_rows (path_rows number (use_of st path number) values) later) (found-none path paths (walk d) absent.0 h)
    ∙ ap (λ v. and_rows v later) (no-values number (use_of st path number)) ∙ rows-none st (number + 1) d more paths absent.1 h

rows-append : (st : SettingsView) (number : ℕ) (d : Data) (more paths before : List (List ℕ)) → AreAbsent more before → AreRegistered (paths_of d) before
    → rows_from number (walk d) (paths ++ more) (uses_from st number (paths ++ more)) ≡ rows_from number (walk d) paths (uses_from st number paths)
rows-append st number d more [] before absent h = rows-none st number d more before absent h
rows-append st number d more (path ∷ paths) before absent h = ap (and_rows (path_rows number (use_of st path number) (found_at path (walk d)))) (rows-append st (number + 1) d more paths before absent h)

rows-stay : (st : SettingsView) (d : Data) (paths more : List (List ℕ)) → AreAbsent more paths → AreRegistered (paths_of d) paths → rows_with st (paths ++ more) d ≡ rows_with st paths d
rows-stay st d paths more absent h = rows-append st 0 d more paths paths absent h

-- ---- paths that stand once

has-append : (path : List ℕ) (paths more : List (List ℕ)) → has_path path (paths ++ more) ≡ false → (has_path path paths ≡ false) × (has_path path more ≡ false)
has-append path [] more h = (refl, h)
has-append path (p ∷ paths) more h = by (bytes_eq path p) refl (has-append path paths more)
  where
    by : (b : Bool) → bytes_eq path p ≡ b → (has_path path (paths ++ more) ≡ false → (has_path path paths ≡ false) × (has_path path more ≡ false)) → (has_path path (p ∷ paths) ≡ false) × (has_path path more ≡ false)
    by true e again = absurd (true≢false (sym (ap (λ b. b || has_path path (paths ++ more)) e) ∙ h))
    by false e again =
        let rest = again (sym (ap (λ b. b || has_path path (paths ++ more)) e) ∙ h) in
        (ap (λ b. b || has_path path paths) e ∙ rest.0, rest.1)

absent-behind : (path : List ℕ) (more : List (List ℕ)) (paths : List (List ℕ)) → has_path path more ≡ false → AreAbsent more paths → AreAbsent more (path ∷ paths)
absent-behind path [] paths h all = tt
absent-behind path (m ∷ more) paths h all = by (bytes_eq path m) refl (absent-behind path more paths)
  where
    by : (b : Bool) → bytes_eq path m ≡ b → (has_path path more ≡ false → AreAbsent more paths → AreAbsent more (path ∷ paths)) → AreAbsent (m ∷ more) (path ∷ paths)
    by true e again = absurd (true≢false (sym (ap (λ b. b || has_path path more) e) ∙ h))
    by false e again = (ap (λ b. b || has_path m paths) (bytes_eq-turned m path ∙ e) ∙ all.0, again (sym (ap (λ b. b || has_path path more) e) ∙ h) all.1)

none-absent : (more : List (List ℕ)) → AreAbsent more []
none-absent [] = tt
none-absent (m ∷ more) = (refl, none-absent more)

pub once-absent : (paths more : List (List ℕ)) → StandOnce (paths ++ more) → AreAbsent more paths
once-absent [] more h = none-absent more
once-absent (path ∷ paths) more h = absent-behind path more paths (has-append path paths more h.0).1 (once-absent paths more h.1)

-- ---- the rows of all documents

pub all-stay : (st : SettingsView) (rows : List Row) (paths more : List (List ℕ)) → StandOnce (paths ++ more) → CoverRows rows paths
    → documents_of (paths ++ more) (uses_from st 0 (paths ++ more)) rows ≡ documents_of paths (uses_from st 0 paths) rows
all-stay st [] paths more once h = refl
all-stay st (r ∷ rows) paths more once h =
    ap (λ v. document_with r.id v ∷ documents_of (paths ++ more) (uses_from st 0 (paths ++ more)) rows) (rows-stay st r.document paths more (once-absent paths more once) h.0)
    ∙ ap (λ v. document_with r.id (rows_with st paths r.document) ∷ v) (all-stay st rows paths more once h.1)

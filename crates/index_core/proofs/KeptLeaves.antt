-- The leaves that are kept of a path are those of the documents.
use Rattle.std.proofs.Common.{◌≡◌, ℕ, zero, suc, ◌+◌, ◌<◌, ◌==◌, Bool, true, false, cond, List, [], ◌∷◌, ◌++◌, length, map, get_or, Option, None, Some, refl, sym, ap, ap₂, ◌∙◌, arith, append-nil}
use Rattle.std.specs.Prelude.{slice_get, bytes_eq}
use Rattle.std.specs.Option.{option_map}
use Rattle.std.specs.List.{cons_option, position}
use Rattle.std.proofs.lemmas.Bool.{cond-true, cond-false, eq-eqb, eqb-true, ne_eqb, true≢false}
use Rattle.std.proofs.lemmas.List.Elements.{filter-append}
use Rattle.std.proofs.lemmas.List.Quantifiers.{position-Some}
use Rattle.std.proofs.lemmas.Slice.Eq.{bytes_eq-Decides}
use Rattle.search_base.specs.declared.document.Leaf.{Leaf}
use Rattle.search_base.specs.declared.document.PathId.{PathId}
use Rattle.search_base.specs.SortKeys.{leaves_under}
use Rattle.doc_values.specs.Leaves.{found_at}
use Rattle.doc_values.specs.Walk.{Visit, walk}
use Rattle.doc_values.specs.declared.rows.Flat.{Flat}
use Rattle.doc_rows.specs.declared.path_use.PathUse.{PathUse}
use Rattle.doc_rows.specs.Facets.{leaf_at, leaves_of_path}
use Rattle.doc_rows.specs.Rows.{rows_from, rows_of, leaves_at}
use Rattle.doc_rows.specs.Texts.{leaf_text}
use Rattle.doc_index.specs.Documents.{documents_of, document_of}
use Rattle.doc_search.specs.Rows.{rows_at}
use Rattle.doc_search.specs.Rows as rows
use Rattle.doc_search.specs.Valued as index
use Rattle.doc_store.specs.Store.{Row, row_at}
use Rattle.row_index.specs.Documents.{document_at}
use Rattle.search_settings.specs.Rules.{path_id}
use Rattle.serde_json.specs.Data.{Data}
use Rattle.index_changes.specs.Index.{Index}
use Rattle.index_core.specs.Among.{IsKeptPath, stored_values, values_of_row}
use Rattle.index_core.specs.Distinct.{values_under}
use Rattle.index_core.specs.Matching.{uses_in}

-- ---- the leaves of one path

-- the number of a path does not show in the values of its leaves
values-any : (m n : ℕ) (vs : List Flat) → map (λ leaf. leaf.value) (leaves_of_path m vs) ≡ map (λ leaf. leaf.value) (leaves_of_path n vs)
values-any m n [] = refl
values-any m n (v ∷ vs) = by (leaf_text v) (values-any m n vs)
  where
    by : (o : Option (List ℕ)) → map (λ leaf. leaf.value) (leaves_of_path m vs) ≡ map (λ leaf. leaf.value) (leaves_of_path n vs)
        → map (λ leaf. leaf.value) (cons_option (option_map (leaf_at m v) o) (leaves_of_path m vs)) ≡ map (λ leaf. leaf.value) (cons_option (option_map (leaf_at n v) o) (leaves_of_path n vs))
    by None rest = rest
    by (Some shown) rest = ap (λ ws. (leaf_at m v shown).value ∷ ws) rest

own-leaves : (n : ℕ) (vs : List Flat) → leaves_under n (leaves_of_path n vs) ≡ leaves_of_path n vs
own-leaves n [] = refl
own-leaves n (v ∷ vs) = by (leaf_text v) (own-leaves n vs)
  where
    by : (o : Option (List ℕ)) → leaves_under n (leaves_of_path n vs) ≡ leaves_of_path n vs
        → leaves_under n (cons_option (option_map (leaf_at n v) o) (leaves_of_path n vs)) ≡ cons_option (option_map (leaf_at n v) o) (leaves_of_path n vs)
    by None rest = rest
    by (Some shown) rest = cond-true (n == n) _ _ (eq-eqb n n refl) ∙ ap (λ ls. leaf_at n v shown ∷ ls) rest

other-leaves : (m n : ℕ) (vs : List Flat) → m < n → leaves_under m (leaves_of_path n vs) ≡ []
other-leaves m n [] less = refl
other-leaves m n (v ∷ vs) less = by (leaf_text v) (other-leaves m n vs less)
  where
    by : (o : Option (List ℕ)) → leaves_under m (leaves_of_path n vs) ≡ [] → leaves_under m (cons_option (option_map (leaf_at n v) o) (leaves_of_path n vs)) ≡ []
    by None rest = rest
    by (Some shown) rest = cond-false (n == m) _ _ (ne_eqb n m (λ e. absurd (omega arith))) ∙ rest

lower-leaves : (m n : ℕ) (vs : List Flat) → n < m → leaves_under m (leaves_of_path n vs) ≡ []
lower-leaves m n [] less = refl
lower-leaves m n (v ∷ vs) less = by (leaf_text v) (lower-leaves m n vs less)
  where
    by : (o : Option (List ℕ)) → leaves_under m (leaves_of_path n vs) ≡ [] → leaves_under m (cons_option (option_map (leaf_at n v) o) (leaves_of_path n vs)) ≡ []
    by None rest = rest
    by (Some shown) rest = cond-false (n == m) _ _ (ne_eqb n m (λ e. absurd (omega arith))) ∙ rest

other-at : (m n : ℕ) (kept : Bool) (vs : List Flat) → m < n → leaves_under m (leaves_at n kept vs) ≡ []
other-at m n true vs less = other-leaves m n vs less
other-at m n false vs less = refl

lower-at : (m n : ℕ) (kept : Bool) (vs : List Flat) → n < m → leaves_under m (leaves_at n kept vs) ≡ []
lower-at m n true vs less = lower-leaves m n vs less
lower-at m n false vs less = refl

-- ---- the leaves of a document, path by path

abbrev all_leaves : ℕ → List Visit → List (List ℕ) → List PathUse → List Leaf
all_leaves number visits paths uses = (rows_from number visits paths uses).leaves

-- no leaf has a path of a lower number than the first
none-before : (m number : ℕ) (visits : List Visit) (paths : List (List ℕ)) (uses : List PathUse) → m < number → leaves_under m (all_leaves number visits paths uses) ≡ []
none-before m number visits [] uses less = refl
none-before m number visits (path ∷ paths) [] less = refl
none-before m number visits (path ∷ paths) (u ∷ uses) less =
    filter-append (λ leaf. leaf.path.0 == m) (leaves_at number u.faceted (found_at path visits)) (all_leaves (number + 1) visits paths uses)
    ∙ ap₂ (λ v w. v ++ w) (other-at m number u.faceted (found_at path visits) less) (none-before m (number + 1) visits paths uses (omega arith))

leaves-there : (k number : ℕ) (visits : List Visit) (paths : List (List ℕ)) (uses : List PathUse) → k < length paths → option_map (λ path_use. path_use.faceted) (slice_get uses k) ≡ Some true
    → leaves_under (number + k) (all_leaves number visits paths uses) ≡ leaves_of_path (number + k) (found_at (get_or paths k []) visits)
leaves-there k number visits [] uses less kept = absurd (omega arith)
leaves-there k number visits (path ∷ paths) [] less kept = absurd (cc)
leaves-there zero number visits (path ∷ paths) (u ∷ uses) less kept =
    let faceted : u.faceted ≡ true = some-same u.faceted true kept in
    let own = found_at path visits in
    let same : number + 0 ≡ number = omega arith in
    ap (λ n. leaves_under n (leaves_at number u.faceted own ++ all_leaves (number + 1) visits paths uses)) same
    ∙ filter-append (λ leaf. leaf.path.0 == number) (leaves_at number u.faceted own) (all_leaves (number + 1) visits paths uses)
    ∙ ap₂ (λ v w. v ++ w) (ap (λ b. leaves_under number (leaves_at number b own)) faceted ∙ own-leaves number own) (none-before number (number + 1) visits paths uses (omega arith))
    ∙ append-nil (leaves_of_path number own) ∙ ap (λ n. leaves_of_path n own) (sym same)
  where
    some-same : (a b : Bool) → Some a ≡ Some b → a ≡ b
    some-same a b h = cc
leaves-there (suc k) number visits (path ∷ paths) (u ∷ uses) less kept =
    let same : number + suc k ≡ (number + 1) + k = omega arith in
    let there : leaves_under ((number + 1) + k) (all_leaves (number + 1) visits paths uses) ≡ leaves_of_path ((number + 1) + k) (found_at (get_or paths k []) visits) =
    leaves-there k (number + 1) visits paths uses (omega arith) kept in
    filter-append (λ leaf. leaf.path.0 == number + suc k) (leaves_at number u.faceted (found_at path visits)) (all_leaves (number + 1) visits paths uses)
    ∙ ap₂ (λ v w. v ++ w) (lower-at (number + suc k) number u.faceted (found_at path visits) (omega arith)) (ap (λ n. leaves_under n (all_leaves (number + 1) visits paths uses)) same)
    ∙ there ∙ ap (λ n. leaves_of_path n (found_at (get_or paths k []) visits)) (sym same)

-- ---- the documents of an index

turned : (m n : ℕ) → (m == n) ≡ (n == m)
turned m n = by (m == n) refl
  where
    by : (b : Bool) → (m == n) ≡ b → b ≡ (n == m)
    by true e = sym (eq-eqb n m (sym (eqb-true m n e)))
    by false e = sym (ne_eqb n m (λ s. absurd (true≢false (sym (eq-eqb m n (sym s)) ∙ e))))

module _ (index_is : Index) (attribute : List ℕ) (path : PathId) (is : IsKeptPath index_is attribute path) where
  abbrev paths : List (List ℕ)
  paths = index_is.store.paths

  named : position (λ p. bytes_eq p attribute) paths ≡ Some path.0
  named = by (position (λ p. bytes_eq p attribute) paths) is.named
    where
      number : PathId → ℕ
      number p = p.0

      some-same : (a b : PathId) → Some a ≡ Some b → a ≡ b
      some-same a b h = cc

      by : (o : Option ℕ) → option_map path_id o ≡ Some path → o ≡ Some path.0
      by None e = absurd (cc)
      by (Some n) e = ap (λ p. Some (number p)) (some-same (path_id n) path e)

  values-kept : (document : Data) → map (λ leaf. leaf.value) (leaves_under path.0 (rows_of document paths (uses_in index_is)).leaves) ≡ values_under attribute document
  values-kept document =
      let zero_plus : 0 + path.0 ≡ path.0 = omega arith in
      let found = position-Some (λ p. bytes_eq p attribute) paths path.0 [] named in
      let same : get_or paths path.0 [] ≡ attribute = (bytes_eq-Decides (get_or paths path.0 []) attribute).0 found.1 in
      let there : leaves_under (0 + path.0) (rows_of document paths (uses_in index_is)).leaves ≡ leaves_of_path (0 + path.0) (found_at (get_or paths path.0 []) (walk document)) =
      leaves-there path.0 0 (walk document) paths (uses_in index_is) found.0 is.kept in
      ap (λ n. map (λ leaf. leaf.value) (leaves_under n (rows_of document paths (uses_in index_is)).leaves)) (sym zero_plus)
      ∙ ap (map (λ leaf. leaf.value)) there
      ∙ ap (λ p. map (λ leaf. leaf.value) (leaves_of_path (0 + path.0) (found_at p (walk document)))) same
      ∙ values-any (0 + path.0) 0 (found_at attribute (walk document))

  document-at : (d : ℕ) (rs : List Row) → document_at d (documents_of paths (uses_in index_is) rs) ≡ option_map (document_of paths (uses_in index_is)) (row_at d rs)
  document-at d [] = refl
  document-at d (r ∷ rs) =
      ap (λ b. cond b (Some (document_of paths (uses_in index_is) r)) (document_at d (documents_of paths (uses_in index_is) rs))) (turned r.id d)
      ∙ by (d == r.id) (document-at d rs)
    where
      by : (b : Bool) → document_at d (documents_of paths (uses_in index_is) rs) ≡ option_map (document_of paths (uses_in index_is)) (row_at d rs)
          → cond b (Some (document_of paths (uses_in index_is) r)) (document_at d (documents_of paths (uses_in index_is) rs)) ≡ option_map (document_of paths (uses_in index_is)) (cond b (Some r) (row_at d rs))
      by true rest = refl
      by false rest = rest

  -- the values that are kept are those of the stored documents
  pub kept-values : (d : ℕ) → index.values_under (documents_of paths (uses_in index_is) index_is.store.rows) path.0 d ≡ stored_values attribute index_is.store.rows d
  kept-values d =
      ap (λ o. map (λ leaf. leaf.value) (leaves_under path.0 (rows.rows_of o).leaves)) (document-at d index_is.store.rows) ∙ by (row_at d index_is.store.rows)
    where
      by : (o : Option Row) → map (λ leaf. leaf.value) (leaves_under path.0 (rows.rows_of (option_map (document_of paths (uses_in index_is)) o)).leaves) ≡ values_of_row attribute o
      by None = refl
      by (Some r) = values-kept r.document

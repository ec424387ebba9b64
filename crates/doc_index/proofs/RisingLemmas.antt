-- Documents that come in the order of their internal ids.
use Rattle.std.proofs.Common.{◌≡◌, ℕ, suc, ◌≤◌, ◌==◌, Bool, true, false, ◌||◌, cond, List, [], ◌∷◌, map, Some, refl, sym, ap, ap₂, ◌∙◌, arith, ne_eqb, eqb-true}
use Rattle.std.specs.Prelude.{Result, Ok, Err, IfOk}
use Rattle.std.specs.Option.{option_map}
use Rattle.std.proofs.lemmas.Bool.{cond-true, cond-false}
use Rattle.doc_rows.specs.declared.path_use.PathUse.{PathUse}
use Rattle.doc_store.specs.Store.{Row}
use Rattle.doc_store.specs.Sound.{Increase}
use Rattle.row_index.specs.Documents.{IndexedDocument, has_id, AreApart, IsBatch, document_at}
use Rattle.row_index.specs.Standing.{RowIndexView, StandsFor}
use Rattle.doc_index.specs.Documents.{document_of, rising}
use Rattle.doc_index.proofs.SameLemmas.{all-from, stands-same}
use Rattle.doc_index.proofs.StoreLemmas.{or_else, or-none, row-none, at-documents, apart-documents}

-- what holds of a result that is handed on
pub ok-more : {A E : Type 0} (P Q : A → Type 0) (r : Result A E) → ((x : A) → P x → Q x) → IfOk r P → IfOk r Q
ok-more P Q (Ok x) f p = f x p
ok-more P Q (Err e) f p = tt

-- documents come into an index of none
pub come-batch : (documents : List IndexedDocument) → AreApart documents → IsBatch [] documents []
come-batch documents apart = record { whole = tt; once = apart; free = all-from _ documents (λ d among. refl) }

module _ (paths : List (List ℕ)) (uses : List PathUse) where
  abbrev shown : Row → IndexedDocument
  shown = document_of paths uses

  at-rising : (id low : ℕ) (rows : List Row) (high : ℕ) (come : List IndexedDocument) → Increase low rows high
      → document_at id (rising paths uses rows come) ≡ or_else (document_at id (map shown rows)) (document_at id come)
  at-rising id low [] high come h = refl
  at-rising id low (r ∷ rows) high come h = at-rising id (suc r.id) rows high (shown r ∷ come) h.1 ∙ by (r.id == id) refl
    where
      by : (b : Bool) → (r.id == id) ≡ b → or_else (document_at id (map shown rows)) (cond (r.id == id) (Some (shown r)) (document_at id come))
          ≡ or_else (cond (r.id == id) (Some (shown r)) (document_at id (map shown rows))) (document_at id come)
      by true e =
          let same : r.id ≡ id = eqb-true r.id id e in
          let none = at-documents paths uses id rows ∙ ap (option_map shown) (row-none id (suc r.id) rows high h.1 (omega arith)) in
          ap₂ or_else none (cond-true _ _ _ e) ∙ sym (ap (λ o. or_else o (document_at id come)) (cond-true _ _ _ e))
      by false e = ap (or_else (document_at id (map shown rows))) (cond-false _ _ _ e) ∙ sym (ap (λ o. or_else o (document_at id come)) (cond-false _ _ _ e))

  apart-behind : (low : ℕ) (rows : List Row) (high : ℕ) (come : List IndexedDocument) → Increase low rows high → AreApart come → ((id : ℕ) → low ≤ id → has_id id come ≡ false)
      → AreApart (rising paths uses rows come)
  apart-behind low [] high come h apart below = apart
  apart-behind low (r ∷ rows) high come h apart below =
      apart-behind (suc r.id) rows high (shown r ∷ come) h.1 (below r.id h.0, apart)
      (λ id above. ap (λ b. b || has_id id come) (ne_eqb r.id id (λ e. absurd (omega (arith, e)))) ∙ below id (omega (arith, h.0)))

  pub apart-rising : (low : ℕ) (rows : List Row) (high : ℕ) → Increase low rows high → AreApart (rising paths uses rows [])
  apart-rising low rows high h = apart-behind low rows high [] h tt (λ id above. refl)

  -- in which order they came is not seen
  pub stands-rising : (index : RowIndexView) (low : ℕ) (rows : List Row) (high : ℕ) → Increase low rows high → StandsFor index (rising paths uses rows []) → StandsFor index (map shown rows)
  stands-rising index low rows high h stood =
      stands-same index (rising paths uses rows []) (map shown rows) (apart-documents paths uses low rows high h)
      (λ id. at-rising id low rows high [] h ∙ or-none (document_at id (map shown rows))) stood

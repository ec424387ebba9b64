-- Documents in the order of their ids.
use Rattle.std.proofs.Common.{◌≡◌, ℕ, ◌<◌, ◌==◌, Bool, true, false, ◌||◌, cond, List, [], ◌∷◌, map, filter, Some, refl, sym, ap, ◌∙◌, arith}
use Rattle.std.specs.List.{AllByRecursion}
use Rattle.std.proofs.lemmas.Bool.{eqb-true, eq-eqb}
use Rattle.search_base.specs.RowsView.{RowsView}
use Rattle.doc_sets.specs.Sets.{has, AreAbove, IsIncreasing}
use Rattle.doc_sets.proofs.SetLemmas.{has-above, increasing-same}
use Rattle.row_index.specs.Documents.{IndexedDocument, document_at, has_id, AreApart}
use Rattle.doc_search.specs.Rows.{rows_of, rows_at}
use Rattle.doc_search.specs.Matches.{AreInOrder, passing}

abbrev pub ids_in : List IndexedDocument → List ℕ
ids_in documents = map (λ document. document.id) documents

has_ids : (documents : List IndexedDocument) (d : ℕ) → has (ids_in documents) d ≡ has_id d documents
has_ids [] d = refl
has_ids (x ∷ xs) d = ap (λ b. (x.id == d) || b) (has_ids xs d)

-- the set of their ids has them in their order
pub all_ids : (documents : List IndexedDocument) (ids : List ℕ) → AreInOrder documents → IsIncreasing ids
    → ((d : ℕ) → has ids d ≡ has_id d documents) → ids ≡ ids_in documents
all_ids documents ids order increasing same =
    increasing-same ids (ids_in documents) increasing order (λ d. same d ∙ sym (has_ids documents d))

pub apart_in_order : (documents : List IndexedDocument) → AreInOrder documents → AreApart documents
apart_in_order [] order = tt
apart_in_order (x ∷ xs) order = (sym (has_ids xs x.id) ∙ has-above x.id x.id (ids_in xs) order.0 (omega arith), apart_in_order xs order.1)

-- each of some is there under its id
abbrev pub AreThere : List IndexedDocument → List IndexedDocument → Type 0
AreThere documents some = AllByRecursion (λ x. document_at x.id documents ≡ Some x) some

there_behind : (x : IndexedDocument) (xs some : List IndexedDocument) → AreAbove x.id (ids_in some) → AreThere xs some → AreThere (x ∷ xs) some
there_behind x xs [] above there = tt
there_behind x xs (y ∷ ys) above there = (by (x.id == y.id) refl, there_behind x xs ys above.1 there.1)
  where
    by : (b : Bool) → (x.id == y.id) ≡ b → cond b (Some x) (document_at y.id xs) ≡ Some y
    by true e = let less : x.id < y.id = above.0 in let is : x.id ≡ y.id = eqb-true x.id y.id e in absurd (omega arith)
    by false e = there.0

pub all_there : (documents : List IndexedDocument) → AreInOrder documents → AreThere documents documents
all_there [] order = tt
all_there (x ∷ xs) order =
    (ap (λ b. cond b (Some x) (document_at x.id xs)) (eq-eqb x.id x.id refl), there_behind x xs xs order.0 (all_there xs order.1))

-- those that pass, by the rows of their ids
pub passing_by : (passes : RowsView → Bool) (documents some : List IndexedDocument) → AreThere documents some
    → filter (λ d. passes (rows_at documents d)) (ids_in some) ≡ passing passes some
passing_by passes documents [] there = refl
passing_by passes documents (x ∷ xs) there =
    ap (λ rows. cond (passes rows) (x.id ∷ filter (λ d. passes (rows_at documents d)) (ids_in xs)) (filter (λ d. passes (rows_at documents d)) (ids_in xs)))
    (ap rows_of there.0)
    ∙ by (passes x.rows) (passing_by passes documents xs there.1)
  where
    by : (b : Bool) → filter (λ d. passes (rows_at documents d)) (ids_in xs) ≡ passing passes xs
        → cond b (x.id ∷ filter (λ d. passes (rows_at documents d)) (ids_in xs)) (filter (λ d. passes (rows_at documents d)) (ids_in xs))
        ≡ ids_in (cond b (x ∷ filter (λ document. passes document.rows) xs) (filter (λ document. passes document.rows) xs))
    by true later = ap (λ ids. x.id ∷ ids) later
    by false later = later

-- What the parts of an index answer, said of the rows of each id.
use Rattle.std.proofs.Common.{◌≡◌, ℕ, ◌==◌, Bool, true, false, cond, List, [], ◌∷◌, map, filter, Option, Some, refl, ap, ◌∙◌}
use Rattle.std.specs.List.{AllByRecursion}
use Rattle.std.proofs.lemmas.List.Elements.{filter_agree}
use Rattle.search_base.specs.Whole.{whole_cost}
use Rattle.condition_graph.specs.declared.condition.Condition.{Condition}
use Rattle.condition_graph.specs.Meets.{meets, IsRanked}
use Rattle.condition_graph.specs.Numbers.{at_number}
use Rattle.path_costs.specs.Sets.{set_at as docs_at, AreByNumber}
use Rattle.doc_sets.specs.SetView.{SetView}
use Rattle.postings.specs.Dictionary.{PostingsView}
use Rattle.postings.specs.Documents.{places_of}
use Rattle.postings.specs.Fresh.{StandsFor}
use Rattle.posting_sets.specs.Blocks.{HaveRanks}
use Rattle.posting_sets.specs.Numbers.{set_at}
use Rattle.doc_search.specs.Meeting.{AreMeetingByNumber}
use Rattle.facet_index.specs.Batches as facets
use Rattle.facet_index.specs.LeavesView.{leaves_of}
use Rattle.filter_sets.specs.Selects.{marks_of, AreRowsOf}
use Rattle.row_index.specs.Documents.{IndexedDocument, document_at}
use Rattle.row_index.specs.Standing.{placed, faceted}
use Rattle.doc_search.specs.Rows.{rows_of, rows_at, AreRanked}

-- each place of the rows of an id is below what all are below
pub ranked_at : (bound : ℕ) (documents : List IndexedDocument) (d : ℕ) → AreRanked bound documents
    → AllByRecursion (IsRanked bound) (rows_at documents d).places
ranked_at bound [] d h = tt
ranked_at bound (x ∷ xs) d h = by (x.id == d) (ranked_at bound xs d h.1)
  where
    by : (b : Bool) → AllByRecursion (IsRanked bound) (rows_at xs d).places
        → AllByRecursion (IsRanked bound) (rows_of (cond b (Some x) (document_at d xs))).places
    by true later = h.0
    by false later = later

places_same : (documents : List IndexedDocument) (d : ℕ) → places_of d (map placed documents) ≡ (rows_at documents d).places
places_same [] d = refl
places_same (x ∷ xs) d = by (x.id == d) (places_same xs d)
  where
    by : (b : Bool) → places_of d (map placed xs) ≡ (rows_at xs d).places
        → cond b x.rows.places (places_of d (map placed xs)) ≡ (rows_of (cond b (Some x) (document_at d xs))).places
    by true later = refl
    by false later = later

-- the documents that meet a condition, by their rows
pub met : (documents : List IndexedDocument) (condition : Condition) (universe ids : List ℕ)
    → ids ≡ filter (λ d. meets (places_of d (map placed documents)) condition) universe
    → ids ≡ filter (λ d. meets (rows_at documents d).places condition) universe
met documents condition universe ids is = is
    ∙ filter_agree (λ d. meets (places_of d (map placed documents)) condition) (λ d. meets (rows_at documents d).places condition)
    (λ d. ap (λ places. meets places condition) (places_same documents d)) universe

same_set : (n : ℕ) (rows : List (ℕ × SetView)) → docs_at n rows ≡ set_at n rows
same_set n [] = refl
same_set n (row ∷ rows) = ap (λ rest. cond (row.0 == n) row.1.ids rest) (same_set n rows)

-- the same of all numbers of a condition
pub met_by_number : (documents : List IndexedDocument) (view : PostingsView) (ranks : List (Option ℕ)) (condition : Condition) (universe : List ℕ) (rows : List (ℕ × SetView))
    → AreMeetingByNumber view ranks condition universe rows → StandsFor view (map placed documents) → HaveRanks ranks (map placed documents)
    → AreByNumber (λ asked d. meets (rows_at documents d).places asked) condition universe rows
met_by_number documents view ranks condition universe rows are fresh have n is =
    same_set n rows ∙ met documents (at_number n condition) universe (set_at n rows) (are n is (map placed documents) fresh have)

-- those at a cost
pub at_cost : (documents : List IndexedDocument) (words : List (List ℕ)) (cost : ℕ) (universe ids : List ℕ)
    → ids ≡ filter (λ d. whole_cost (places_of d (map placed documents)) words == cost) universe
    → ids ≡ filter (λ d. whole_cost (rows_at documents d).places words == cost) universe
at_cost documents words cost universe ids is = is
    ∙ filter_agree (λ d. whole_cost (places_of d (map placed documents)) words == cost) (λ d. whole_cost (rows_at documents d).places words == cost)
    (λ d. ap (λ places. whole_cost places words == cost) (places_same documents d)) universe

pub leaves_same : (documents : List IndexedDocument) (d : ℕ) → (rows_at documents d).leaves ≡ leaves_of (facets.document_at d (map faceted documents))
leaves_same [] d = refl
leaves_same (x ∷ xs) d = by (x.id == d) (leaves_same xs d)
  where
    by : (b : Bool) → (rows_at xs d).leaves ≡ leaves_of (facets.document_at d (map faceted xs))
        → (rows_of (cond b (Some x) (document_at d xs))).leaves ≡ leaves_of (cond b (Some (faceted x)) (facets.document_at d (map faceted xs)))
    by true later = refl
    by false later = later

marks_same : (documents : List IndexedDocument) (d : ℕ) → (rows_at documents d).marks ≡ marks_of (facets.document_at d (map faceted documents))
marks_same [] d = refl
marks_same (x ∷ xs) d = by (x.id == d) (marks_same xs d)
  where
    by : (b : Bool) → (rows_at xs d).marks ≡ marks_of (facets.document_at d (map faceted xs))
        → (rows_of (cond b (Some x) (document_at d xs))).marks ≡ marks_of (cond b (Some (faceted x)) (facets.document_at d (map faceted xs)))
    by true later = refl
    by false later = later

pub rows_are : (documents : List IndexedDocument) → AreRowsOf (rows_at documents) (map faceted documents)
rows_are documents = record { leaves = leaves_same documents; marks = marks_same documents }

-- The documents of an entry.
use Rattle.std.proofs.Common.{◌≡◌, ℕ, Bool, true, false, not, ◌&&◌, ◌||◌, ◌==◌, cond, List, [], ◌∷◌, Option, None, Some, Result, Ok, Err, map, refl, sym, ap, ◌∙◌}
use Rattle.std.specs.List.{filter}
use Rattle.std.specs.Option.{option_map}
use Rattle.std.specs.Result.{IfOk}
use Rattle.doc_sets.specs.SetView.{SetView}
use Rattle.std.proofs.lemmas.Bool.{eqb-true}
use Rattle.search_base.specs.declared.cost_key.CostKey.{CostKey}
use Rattle.search_base.specs.declared.value.FacetValue.{FacetValue}
use Rattle.search_base.specs.CostOrder.{before}
use Rattle.postings.specs.Dictionary.{PostingsView, list_at}
use Rattle.postings.specs.Documents as post
use Rattle.facet_keys.specs.Keys.{key_bytes, IsNarrow}
use Rattle.facet_keys.specs.Laws.{AreApart as KeysAreApart}
use Rattle.facet_index.specs.LeavesView.{LeavesView}
use Rattle.facet_index.specs.Documents.{passes_at}
use Rattle.facet_index.specs.Ends.{first_value, end_facet}
use Rattle.facet_index.specs.Places.{keyed, IsNarrowDocument, IsIndexOf, has_document}
use Rattle.facet_index.specs.Batches.{has_id, AreApart, document_at}
use Rattle.facet_index.specs.Sorts.{entry_at, sort_key, same, is_under}
use Rattle.facet_index.specs.Starts.{entry_of, entry_value}
use Rattle.facet_index.proofs.TestLemmas.{any_map, any_where, filter_same}
use Rattle.facet_index.proofs.KeyLemmas.{has_at, facet_key}
use Rattle.facet_index.proofs.EndLemmas.{is_that, end_says}
use Rattle.facet_index.proofs.SortLemmas.{and_turned, entry_is, entries_same, value_of_entry, no_value}

-- whether there is a document that passes
abbrev pub if_passes : (LeavesView → Bool) → Option LeavesView → Bool
if_passes test None = false
if_passes test (Some document) = test document

-- the documents of an index have different numbers
pub documents_apart : (documents : List LeavesView) → post.AreApart (map keyed documents) → AreApart documents
documents_apart [] h = tt
documents_apart (x ∷ xs) h = (sym (any_map keyed (λ d. d.id == x.id) xs) ∙ h.0, documents_apart xs h.1)

nothing_else : (test : LeavesView → Bool) (id : ℕ) (documents : List LeavesView) → has_id id documents ≡ false → passes_at test documents id ≡ false
nothing_else test id [] h = refl
nothing_else test id (x ∷ xs) h = by (x.id == id) h (nothing_else test id xs)
  where
    by : (b : Bool) → (b || has_id id xs) ≡ false → (has_id id xs ≡ false → passes_at test xs id ≡ false) → ((b && test x) || passes_at test xs id) ≡ false
    by true h later = absurd (cc)
    by false h later = later h

pub passes_is : (test : LeavesView → Bool) (id : ℕ) (documents : List LeavesView) → AreApart documents → passes_at test documents id ≡ if_passes test (document_at id documents)
passes_is test id [] apart = refl
passes_is test id (x ∷ xs) apart = by (x.id == id) refl (passes_is test id xs apart.1)
  where
    or_false : (b : Bool) → (b || false) ≡ b
    or_false true = refl
    or_false false = refl

    by : (b : Bool) → b ≡ (x.id == id) → passes_at test xs id ≡ if_passes test (document_at id xs)
        → ((b && test x) || passes_at test xs id) ≡ if_passes test (cond b (Some x) (document_at id xs))
    by true s later = ap (λ b. test x || b) (nothing_else test id xs (ap (λ n. has_id n xs) (sym (eqb-true x.id id (sym s))) ∙ apart.0)) ∙ or_false (test x)
    by false s later = later

turned : (j k : CostKey) → same j k ≡ same k j
turned j k = and_turned (not (before j k)) (not (before k j))

under_is : (up : Bool) (v : FacetValue) (o : Option FacetValue) → is_that v o ≡ is_under (entry_of up v) (option_map (entry_of up) o)
under_is up v None = refl
under_is up v (Some w) = sym (turned (entry_of up w) (entry_of up v) ∙ entries_same up v w)

-- a document has the key of a value exactly where it has its entry
pub has_entry : KeysAreApart → (up : Bool) (view : PostingsView) (documents : List LeavesView) (path : ℕ) (v : FacetValue) (d : ℕ)
    → IsNarrow path (end_facet up v) → IsIndexOf view documents
    → has_document d (list_at (key_bytes path (end_facet up v)) view) ≡ is_under (entry_of up v) (sort_key up path documents d)
has_entry apart up view documents path v d asked index =
    has_at view documents (key_bytes path (end_facet up v)) d index
    ∙ any_where IsNarrowDocument _ (λ x. (x.id == d) && is_that v (first_value up path x.leaves)) documents index.narrow
    (λ x narrow. ap (λ b. (x.id == d) && b) (facet_key apart path (end_facet up v) x asked narrow ∙ end_says up path v x))
    ∙ passes_is (λ x. is_that v (first_value up path x.leaves)) d documents (documents_apart documents index.keys.apart)
    ∙ one (document_at d documents)
  where
    one : (o : Option LeavesView) → if_passes (λ x. is_that v (first_value up path x.leaves)) o ≡ is_under (entry_of up v) (entry_at up path o)
    one None = refl
    one (Some x) = under_is up v (first_value up path x.leaves) ∙ ap (is_under (entry_of up v)) (sym (entry_is up path x.leaves))

-- the documents of the key of a value have its entry
pub sort_at_key : KeysAreApart → (up : Bool) (view : PostingsView) (documents : List LeavesView) (path : ℕ) (at : CostKey) (v : FacetValue) (universe key : List ℕ)
    → key ≡ key_bytes path (end_facet up v) → IsNarrow path (end_facet up v) → Some v ≡ entry_value up at → IsIndexOf view documents
    → filter (λ d. has_document d (list_at key view)) universe ≡ filter (λ d. is_under at (sort_key up path documents d)) universe
sort_at_key apart up view documents path at v universe key is asked says index =
    filter_same _ (λ d. is_under at (sort_key up path documents d)) universe
    (λ d. ap (λ k. has_document d (list_at k view)) is ∙ has_entry apart up view documents path v d asked index
    ∙ ap (λ k. is_under k (sort_key up path documents d)) (sym (value_of_entry up at v says)))

-- no document has an entry that is not one of a value
pub no_sort : (up : Bool) (documents : List LeavesView) (path : ℕ) (at : CostKey) (universe : List ℕ) → None ≡ entry_value up at
    → [] ≡ filter (λ d. is_under at (sort_key up path documents d)) universe
no_sort up documents path at universe says = empty universe
  where
    none : (o : Option FacetValue) → is_under at (option_map (entry_of up) o) ≡ false
    none None = refl
    none (Some w) = turned (entry_of up w) at ∙ no_value up at w says

    one : (o : Option LeavesView) → is_under at (entry_at up path o) ≡ false
    one None = refl
    one (Some x) = ap (is_under at) (entry_is up path x.leaves) ∙ none (first_value up path x.leaves)

    empty : (ids : List ℕ) → [] ≡ filter (λ d. is_under at (sort_key up path documents d)) ids
    empty [] = refl
    empty (d ∷ ds) = empty ds ∙ ap (λ b. cond b (d ∷ filter (λ e. is_under at (sort_key up path documents e)) ds) (filter (λ e. is_under at (sort_key up path documents e)) ds))
        (sym (one (document_at d documents)))

pub sort_answer : {E : Type 0} → KeysAreApart → (up : Bool) (view : PostingsView) (path : ℕ) (at : CostKey) (v : FacetValue) (universe key : List ℕ)
    → key ≡ key_bytes path (end_facet up v) → IsNarrow path (end_facet up v) → Some v ≡ entry_value up at
    → (r : Result SetView E) → IfOk r (λ docs. docs.ids ≡ filter (λ d. has_document d (list_at key view)) universe)
    → IfOk r (λ docs. (documents : List LeavesView) → IsIndexOf view documents → docs.ids ≡ filter (λ d. is_under at (sort_key up path documents d)) universe)
sort_answer apart up view path at v universe key is narrow says (Ok docs) h = λ documents index.
    h ∙ sort_at_key apart up view documents path at v universe key is narrow says index
sort_answer apart up view path at v universe key is narrow says (Err e) h = tt

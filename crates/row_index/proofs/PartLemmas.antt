-- Documents as the parts of an index know them.
use Rattle.std.proofs.Common.{◌≡◌, ℕ, Bool, true, false, not, ◌==◌, ◌||◌, cond, List, [], ◌∷◌, ◌++◌, Some, map, refl, sym, ap, ◌∙◌}
use Rattle.std.specs.Option.{option_map}
use Rattle.std.specs.List.{filter, list_any, AllByRecursion}
use Rattle.std.proofs.lemmas.List.{map-append}
use Rattle.search_base.specs.declared.document.Place.{Place}
use Rattle.postings.specs.Documents.{Document}
use Rattle.postings.specs.Documents as postings
use Rattle.facet_index.specs.Batches as facets
use Rattle.row_index.specs.Documents.{IndexedDocument, has_id, AreApart, document_at, without, after, IsBatch}
use Rattle.row_index.specs.Standing.{placed, faceted}

any_map : {D : Type 0} (f : IndexedDocument → D) (p : D → Bool) (xs : List IndexedDocument) → list_any p (map f xs) ≡ list_any (λ x. p (f x)) xs
any_map f p [] = refl
any_map f p (x ∷ xs) = ap (λ b. p (f x) || b) (any_map f p xs)

kept_map : {D : Type 0} (f : IndexedDocument → D) (p : D → Bool) (q : IndexedDocument → Bool) (xs : List IndexedDocument)
    → ((x : IndexedDocument) → p (f x) ≡ q x) → filter p (map f xs) ≡ map f (filter q xs)
kept_map f p q [] same = refl
kept_map f p q (x ∷ xs) same =
    ap (λ b. cond b (f x ∷ filter p (map f xs)) (filter p (map f xs))) (same x) ∙ by (q x) (kept_map f p q xs same)
  where
    by : (b : Bool) → filter p (map f xs) ≡ map f (filter q xs)
        → cond b (f x ∷ filter p (map f xs)) (filter p (map f xs)) ≡ map f (cond b (x ∷ filter q xs) (filter q xs))
    by true later = ap (λ rest. f x ∷ rest) later
    by false later = later

all_map : {D : Type 0} (f : IndexedDocument → D) (P : IndexedDocument → Type 0) (Q : D → Type 0) (xs : List IndexedDocument)
    → AllByRecursion P xs → ((x : IndexedDocument) → P x → Q (f x)) → AllByRecursion Q (map f xs)
all_map f P Q [] h g = tt
all_map f P Q (x ∷ xs) h g = (g x h.0, all_map f P Q xs h.1 g)

-- ---- as posting lists know them

abbrev pub placed_at : ℕ → List Place → Document
placed_at id places = record { id = id; places = places }

has_placed : (id : ℕ) (documents : List IndexedDocument) → postings.has_id id (map placed documents) ≡ has_id id documents
has_placed id documents = any_map placed (λ document. document.id == id) documents

without_placed : (gone documents : List IndexedDocument) → postings.without (map placed gone) (map placed documents) ≡ map placed (without gone documents)
without_placed gone documents =
    kept_map placed (λ document. not (postings.has_id document.id (map placed gone))) (λ document. not (has_id document.id gone)) documents
    (λ x. ap not (has_placed x.id gone))

pub after_placed : (gone come documents : List IndexedDocument)
    → postings.after (map placed gone) (map placed come) (map placed documents) ≡ map placed (after gone come documents)
after_placed gone come documents =
    ap (λ rest. map placed come ++ rest) (without_placed gone documents) ∙ sym (map-append placed come (without gone documents))

apart_placed : (documents : List IndexedDocument) → AreApart documents → postings.AreApart (map placed documents)
apart_placed [] h = tt
apart_placed (x ∷ xs) h = (has_placed x.id xs ∙ h.0, apart_placed xs h.1)

places_at : (id : ℕ) (x : IndexedDocument) (documents : List IndexedDocument) → document_at id documents ≡ Some x
    → x.rows.places ≡ postings.places_of id (map placed documents)
places_at id x [] h = absurd (cc)
places_at id x (d ∷ ds) h = by (d.id == id) h (places_at id x ds)
  where
    by : (b : Bool) → cond b (Some d) (document_at id ds) ≡ Some x
        → (document_at id ds ≡ Some x → x.rows.places ≡ postings.places_of id (map placed ds))
        → x.rows.places ≡ cond b d.rows.places (postings.places_of id (map placed ds))
    by true h later = let same : d ≡ x = cc in ap (λ y. y.rows.places) (sym same)
    by false h later = later h

pub batch_placed : (gone come documents : List IndexedDocument) → IsBatch gone come documents
    → postings.IsBatch (map placed gone) (map placed come) (map placed documents)
batch_placed gone come documents batch = record {
  whole = all_map placed (λ x. document_at x.id documents ≡ Some x) (λ x. x.places ≡ postings.places_of x.id (map placed documents)) gone batch.whole
      (λ x h. places_at x.id x documents h);
  once = apart_placed come batch.once;
  free = all_map placed (λ x. has_id x.id (without gone documents) ≡ false)
      (λ x. postings.has_id x.id (postings.without (map placed gone) (map placed documents)) ≡ false) come batch.free
      (λ x h. ap (postings.has_id x.id) (without_placed gone documents) ∙ has_placed x.id (without gone documents) ∙ h);
}

-- ---- as the facet index knows them

has_faceted : (id : ℕ) (documents : List IndexedDocument) → facets.has_id id (map faceted documents) ≡ has_id id documents
has_faceted id documents = any_map faceted (λ document. document.id == id) documents

without_faceted : (gone documents : List IndexedDocument) → facets.without (map faceted gone) (map faceted documents) ≡ map faceted (without gone documents)
without_faceted gone documents =
    kept_map faceted (λ document. not (facets.has_id document.id (map faceted gone))) (λ document. not (has_id document.id gone)) documents
    (λ x. ap not (has_faceted x.id gone))

pub after_faceted : (gone come documents : List IndexedDocument)
    → facets.after (map faceted gone) (map faceted come) (map faceted documents) ≡ map faceted (after gone come documents)
after_faceted gone come documents =
    ap (λ rest. map faceted come ++ rest) (without_faceted gone documents) ∙ sym (map-append faceted come (without gone documents))

apart_faceted : (documents : List IndexedDocument) → AreApart documents → facets.AreApart (map faceted documents)
apart_faceted [] h = tt
apart_faceted (x ∷ xs) h = (has_faceted x.id xs ∙ h.0, apart_faceted xs h.1)

pub at_faceted : (id : ℕ) (documents : List IndexedDocument)
    → facets.document_at id (map faceted documents) ≡ option_map faceted (document_at id documents)
at_faceted id [] = refl
at_faceted id (d ∷ ds) = ap (cond (d.id == id) (Some (faceted d))) (at_faceted id ds) ∙ by (d.id == id)
  where
    by : (b : Bool) → cond b (Some (faceted d)) (option_map faceted (document_at id ds)) ≡ option_map faceted (cond b (Some d) (document_at id ds))
    by true = refl
    by false = refl

pub batch_faceted : (gone come documents : List IndexedDocument) → IsBatch gone come documents
    → facets.IsBatch (map faceted gone) (map faceted come) (map faceted documents)
batch_faceted gone come documents batch = record {
  whole = all_map faceted (λ x. document_at x.id documents ≡ Some x) (λ x. facets.document_at x.id (map faceted documents) ≡ Some x) gone batch.whole
      (λ x h. at_faceted x.id documents ∙ ap (option_map faceted) h);
  once = apart_faceted come batch.once;
  free = all_map faceted (λ x. has_id x.id (without gone documents) ≡ false)
      (λ x. facets.has_id x.id (facets.without (map faceted gone) (map faceted documents)) ≡ false) come batch.free
      (λ x h. ap (facets.has_id x.id) (without_faceted gone documents) ∙ has_faceted x.id (without gone documents) ∙ h);
}

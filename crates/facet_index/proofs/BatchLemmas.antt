-- Documents that go and come, and their keys.
use Rattle.std.proofs.Common.{◌≡◌, ℕ, Bool, true, false, not, ◌==◌, cond, List, [], ◌∷◌, ◌++◌, Some, map, refl, sym, ap, ◌∙◌}
use Rattle.std.specs.List.{filter, AllByRecursion}
use Rattle.std.proofs.lemmas.List.{map-append}
use Rattle.search_base.specs.declared.document.Place.{Place}
use Rattle.sorted_pages.specs.Entries.{has}
use Rattle.postings.specs.Dictionary.{PostingsView, list_at}
use Rattle.postings.specs.Documents.{Document}
use Rattle.postings.specs.Documents as post
use Rattle.facet_index.specs.LeavesView.{LeavesView}
use Rattle.facet_index.specs.Places.{keyed, IsNarrowDocument, IsIndexOf}
use Rattle.facet_index.specs.Batches.{has_id, AreApart, document_at, without, after, IsBatch}
use Rattle.facet_index.proofs.TestLemmas.{any_map}
use Rattle.facet_index.proofs.KeyLemmas.{all_both}

-- the same lists
pub index_same : (old new : PostingsView) (documents : List LeavesView) → ((key : List ℕ) → list_at key new ≡ list_at key old)
    → IsIndexOf old documents → IsIndexOf new documents
index_same old new documents same index = record {
  keys = record {
    each = λ w e. ap (λ l. has l e) (same w) ∙ index.keys.each w e;
    narrow = index.keys.narrow;
    apart = index.keys.apart;
  };
  narrow = index.narrow;
}

-- ---- one document more

abbrev pub made : ℕ → List Place → Document
made id places = record { id = id; places = places }

-- ---- a batch

has_id_keyed : (id : ℕ) (documents : List LeavesView) → post.has_id id (map keyed documents) ≡ has_id id documents
has_id_keyed id documents = any_map keyed (λ document. document.id == id) documents

without_keyed : (gone documents : List LeavesView) → post.without (map keyed gone) (map keyed documents) ≡ map keyed (without gone documents)
without_keyed gone [] = refl
without_keyed gone (x ∷ xs) =
    ap (λ b. cond (not b) (keyed x ∷ post.without (map keyed gone) (map keyed xs)) (post.without (map keyed gone) (map keyed xs))) (has_id_keyed x.id gone)
    ∙ by (not (has_id x.id gone)) (without_keyed gone xs)
  where
    by : (b : Bool) → post.without (map keyed gone) (map keyed xs) ≡ map keyed (without gone xs)
        → cond b (keyed x ∷ post.without (map keyed gone) (map keyed xs)) (post.without (map keyed gone) (map keyed xs))
        ≡ map keyed (cond b (x ∷ without gone xs) (without gone xs))
    by true later = ap (λ rest. keyed x ∷ rest) later
    by false later = later

pub after_keyed : (gone come documents : List LeavesView)
    → post.after (map keyed gone) (map keyed come) (map keyed documents) ≡ map keyed (after gone come documents)
after_keyed gone come documents =
    ap (λ rest. map keyed come ++ rest) (without_keyed gone documents) ∙ sym (map-append keyed come (without gone documents))

apart_keyed : (documents : List LeavesView) → AreApart documents → post.AreApart (map keyed documents)
apart_keyed [] h = tt
apart_keyed (x ∷ xs) h = (has_id_keyed x.id xs ∙ h.0, apart_keyed xs h.1)

whole_at : (id : ℕ) (x : LeavesView) (documents : List LeavesView) → document_at id documents ≡ Some x → (keyed x).places ≡ post.places_of id (map keyed documents)
whole_at id x [] h = absurd (cc)
whole_at id x (d ∷ ds) h = by (d.id == id) h (whole_at id x ds)
  where
    by : (b : Bool) → cond b (Some d) (document_at id ds) ≡ Some x → (document_at id ds ≡ Some x → (keyed x).places ≡ post.places_of id (map keyed ds))
        → (keyed x).places ≡ cond b (keyed d).places (post.places_of id (map keyed ds))
    by true h later = let same : d ≡ x = cc in ap (λ y. (keyed y).places) (sym same)
    by false h later = later h

all_keyed : (P : LeavesView → Type 0) (Q : Document → Type 0) (xs : List LeavesView) → AllByRecursion P xs → ((x : LeavesView) → P x → Q (keyed x))
    → AllByRecursion Q (map keyed xs)
all_keyed P Q [] h f = tt
all_keyed P Q (x ∷ xs) h f = (f x h.0, all_keyed P Q xs h.1 f)

pub batch_keyed : (gone come documents : List LeavesView) → IsBatch gone come documents → post.IsBatch (map keyed gone) (map keyed come) (map keyed documents)
batch_keyed gone come documents batch = record {
  whole = all_keyed (λ x. document_at x.id documents ≡ Some x) (λ x. x.places ≡ post.places_of x.id (map keyed documents)) gone batch.whole
      (λ x h. whole_at x.id x documents h);
  once = apart_keyed come batch.once;
  free = all_keyed (λ x. has_id x.id (without gone documents) ≡ false) (λ x. post.has_id x.id (post.without (map keyed gone) (map keyed documents)) ≡ false)
      come batch.free (λ x h. ap (post.has_id x.id) (without_keyed gone documents) ∙ has_id_keyed x.id (without gone documents) ∙ h);
}

all_kept : (P : LeavesView → Type 0) (p : LeavesView → Bool) (xs : List LeavesView) → AllByRecursion P xs → AllByRecursion P (filter p xs)
all_kept P p [] h = tt
all_kept P p (x ∷ xs) h = by (p x) (all_kept P p xs h.1)
  where
    by : (b : Bool) → AllByRecursion P (filter p xs) → AllByRecursion P (cond b (x ∷ filter p xs) (filter p xs))
    by true rest = (h.0, rest)
    by false rest = rest

pub narrow_after : (gone come documents : List LeavesView) → AllByRecursion IsNarrowDocument come → AllByRecursion IsNarrowDocument documents
    → AllByRecursion IsNarrowDocument (after gone come documents)
narrow_after gone come documents h k =
    all_both IsNarrowDocument come (without gone documents) h (all_kept IsNarrowDocument (λ x. not (has_id x.id gone)) documents k)

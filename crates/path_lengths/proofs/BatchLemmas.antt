-- Documents that go and come, by the lengths of their paths.
use Rattle.std.proofs.Common.{◌≡◌, ℕ, Bool, true, false, not, ◌==◌, ◌||◌, cond, List, [], ◌∷◌, ◌++◌, map, filter, refl, sym, ap, ◌∙◌, arith}
use Rattle.std.specs.List.{AllByRecursion}
use Rattle.std.proofs.lemmas.List.{map-append}
use Rattle.search_base.specs.declared.document.Place.{Place}
use Rattle.sorted_pages.specs.Entries.{has}
use Rattle.postings.specs.Changes.{ChangeView, IsChangeOf}
use Rattle.postings.specs.Dictionary.{PostingsView, list_at}
use Rattle.postings.specs.Documents.{Document, is_place, stands, AreNarrow, AllNarrow, has_id, AreApart, places_of, without, after, IsBatch}
use Rattle.path_lengths.specs.Measured.{length_place, lengths_of, measured, AreLengthsOf}
use Rattle.path_lengths.specs.Lasts.{AreLengthPlaces}

-- the same lists
pub lengths_same : (old new : PostingsView) (documents : List Document) → ((key : List ℕ) → list_at key new ≡ list_at key old)
    → AreLengthsOf old documents → AreLengthsOf new documents
lengths_same old new documents same lengths = record {
  keys = record {
    each = λ w e. ap (λ l. has l e) (same w) ∙ lengths.keys.each w e;
    narrow = lengths.keys.narrow;
    apart = lengths.keys.apart;
  };
  narrow = lengths.narrow;
}

-- ---- one document more, whose lengths stand in any order
narrow_all : (places : List Place) → AreNarrow (map length_place places)
narrow_all [] = tt
narrow_all (p ∷ ps) = ((omega arith, omega arith), narrow_all ps)

abbrev made : ℕ → List Place → Document
made id places = record { id = id; places = places }

pub one_goes : (change : ChangeView) (id : ℕ) (places found : List Place) (gone come : List Document) → AreLengthPlaces places found
    → IsChangeOf change (made id found ∷ gone) come → IsChangeOf change (made id (lengths_of places) ∷ gone) come
one_goes change id places found gone come are is = record {
  goes = λ w e. is.goes w e ∙ ap (λ b. b || stands w e gone) (are (is_place w e id));
  comes = is.comes;
  narrow = is.narrow;
}

pub one_comes : (change : ChangeView) (id : ℕ) (places found : List Place) (gone come : List Document) → AreLengthPlaces places found
    → IsChangeOf change gone (made id found ∷ come) → IsChangeOf change gone (made id (lengths_of places) ∷ come)
one_comes change id places found gone come are is = record {
  goes = is.goes;
  comes = λ w e. is.comes w e ∙ ap (λ b. b || stands w e come) (are (is_place w e id));
  narrow = (narrow_all _, is.narrow.1);
}

-- ---- a batch
has_id_measured : (id : ℕ) (documents : List Document) → has_id id (map measured documents) ≡ has_id id documents
has_id_measured id [] = refl
has_id_measured id (d ∷ ds) = ap (λ b. (d.id == id) || b) (has_id_measured id ds)

without_measured : (gone documents : List Document) → without (map measured gone) (map measured documents) ≡ map measured (without gone documents)
without_measured gone [] = refl
without_measured gone (x ∷ xs) =
    ap (λ b. cond (not b) (measured x ∷ without (map measured gone) (map measured xs)) (without (map measured gone) (map measured xs))) (has_id_measured x.id gone)
    ∙ by (not (has_id x.id gone)) (without_measured gone xs)
  where
    by : (b : Bool) → without (map measured gone) (map measured xs) ≡ map measured (without gone xs)
        → cond b (measured x ∷ without (map measured gone) (map measured xs)) (without (map measured gone) (map measured xs))
        ≡ map measured (cond b (x ∷ without gone xs) (without gone xs))
    by true later = ap (λ rest. measured x ∷ rest) later
    by false later = later

pub after_measured : (gone come documents : List Document)
    → after (map measured gone) (map measured come) (map measured documents) ≡ map measured (after gone come documents)
after_measured gone come documents =
    ap (λ rest. map measured come ++ rest) (without_measured gone documents) ∙ sym (map-append measured come (without gone documents))

apart_measured : (documents : List Document) → AreApart documents → AreApart (map measured documents)
apart_measured [] h = tt
apart_measured (x ∷ xs) h = (has_id_measured x.id xs ∙ h.0, apart_measured xs h.1)

pub places_measured : (id : ℕ) (documents : List Document) → places_of id (map measured documents) ≡ lengths_of (places_of id documents)
places_measured id [] = refl
places_measured id (d ∷ ds) = by (d.id == id) (places_measured id ds)
  where
    by : (b : Bool) → places_of id (map measured ds) ≡ lengths_of (places_of id ds)
        → cond b (measured d).places (places_of id (map measured ds)) ≡ lengths_of (cond b d.places (places_of id ds))
    by true later = refl
    by false later = later

all_measured : (P Q : Document → Type 0) (xs : List Document) → AllByRecursion P xs → ((x : Document) → P x → Q (measured x)) → AllByRecursion Q (map measured xs)
all_measured P Q [] h f = tt
all_measured P Q (x ∷ xs) h f = (f x h.0, all_measured P Q xs h.1 f)

pub batch_measured : (gone come documents : List Document) → IsBatch gone come documents → IsBatch (map measured gone) (map measured come) (map measured documents)
batch_measured gone come documents batch = record {
  whole = all_measured (λ x. x.places ≡ places_of x.id documents) (λ x. x.places ≡ places_of x.id (map measured documents)) gone batch.whole
      (λ x h. ap lengths_of h ∙ sym (places_measured x.id documents));
  once = apart_measured come batch.once;
  free = all_measured (λ x. has_id x.id (without gone documents) ≡ false) (λ x. has_id x.id (without (map measured gone) (map measured documents)) ≡ false)
      come batch.free (λ x h. ap (has_id x.id) (without_measured gone documents) ∙ has_id_measured x.id (without gone documents) ∙ h);
}

-- ---- narrow documents
all_kept : (P : Document → Type 0) (p : Document → Bool) (xs : List Document) → AllByRecursion P xs → AllByRecursion P (filter p xs)
all_kept P p [] h = tt
all_kept P p (x ∷ xs) h = by (p x) (all_kept P p xs h.1)
  where
    by : (b : Bool) → AllByRecursion P (filter p xs) → AllByRecursion P (cond b (x ∷ filter p xs) (filter p xs))
    by true rest = (h.0, rest)
    by false rest = rest

all_both : (P : Document → Type 0) (xs ys : List Document) → AllByRecursion P xs → AllByRecursion P ys → AllByRecursion P (xs ++ ys)
all_both P [] ys h k = k
all_both P (x ∷ xs) ys h k = (h.0, all_both P xs ys h.1 k)

pub narrow_after : (gone come documents : List Document) → AllNarrow come → AllNarrow documents → AllNarrow (after gone come documents)
narrow_after gone come documents h k =
    all_both (λ d. AreNarrow d.places) come (without gone documents) h (all_kept (λ d. AreNarrow d.places) (λ x. not (has_id x.id gone)) documents k)

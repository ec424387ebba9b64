-- The entries of a document's words, of all that stand in some documents.
use Rattle.std.proofs.Common.{◌≡◌, ℕ, ◌+◌, ◌*◌, ◌/◌, ◌^◌, ◌<◌, ◌==◌, Bool, true, false, ◌&&◌, ◌||◌, cond, List, [], ◌∷◌, map, nat_eq, refl, sym, ap, ap₂, subst, ◌∙◌, arith}
use Rattle.std.specs.List.{list_any, starts_with, range_with_len}
use Rattle.std.specs.Str.{bytes_eq}
use Rattle.std.proofs.lemmas.Bool.{eqb-true, eq-eqb, false_from_ne_true}
use Rattle.std.proofs.lemmas.Map.Text.{is_eq-slice_cmp}
use Rattle.search_base.specs.declared.document.Place.{Place}
use Rattle.search_base.specs.Occurrence.{is_asked, is_word_at, words_stand_at}
use Rattle.search_base.specs.PairCost.{asked_cost}
use Rattle.search_base.proofs.AnyLemmas.{list_any-same}
use Rattle.search_base.proofs.Members.{All-among}
use Rattle.doc_sets.specs.Sets.{has as has_id}
use Rattle.sorted_pages.specs.Entries.{has}
use Rattle.sorted_pages.proofs.SetLemmas.{has-filter}
use Rattle.postings.specs.Documents.{Document, entry_of, stands, has_id as names, AreNarrow, AllNarrow, AreApart, places_of}
use Rattle.postings.specs.Dictionary.{PostingsView, list_at}
use Rattle.postings.specs.Fresh.{StandsFor}
use Rattle.postings.proofs.WordLemmas.{turned}
use Rattle.near_words.specs.EntryCost.{AreEntriesOf}
use Rattle.near_words.specs.ByCost.{run_of, cost_in, ids_at, ids_by_cost}
use Rattle.posting_sets.specs.Entries.{document_of, path_of, position_of}
use Rattle.posting_sets.specs.Prefixes.{PrefixView, in_rows, AreGathered}
use Rattle.posting_sets.proofs.PlaceLemmas.{is_there as at_parts}
use Rattle.near_words.proofs.DocumentLemmas.{any_among, document_cost}

both : (a b : Bool) → (a && b) ≡ true → (a ≡ true) × (b ≡ true)
both true true h = (refl, refl)
both true false h = absurd (cc)
both false b h = absurd (cc)

or_true : (b : Bool) → (b || true) ≡ true
or_true true = refl
or_true false = refl

clash : (b : Bool) → b ≡ true → b ≡ false → ⊥
clash true h k = cc
clash false h k = cc

-- ---- one document
abbrev is_there : (List ℕ → Bool) → ℕ → ℕ → Place → Bool
is_there is_word entry id place = is_word place.word && (entry_of id place == entry)

whole_of : (id path position : ℕ) → path < 2 ^ 16 → position < 2 ^ 16 → (id * 2 ^ 32 + path * 2 ^ 16 + position) / 2 ^ 32 ≡ id
whole_of id path position p q = omega arith

home : (is_word : List ℕ → Bool) (entry id : ℕ) (places : List Place) → AreNarrow places → list_any (is_there is_word entry id) places ≡ true → entry / 2 ^ 32 ≡ id
home is_word entry id places narrow h =
    let found = any_among (is_there is_word entry id) places h in
    let fits = All-among (λ place. (place.path.0 < 2 ^ 16) × (place.position < 2 ^ 16)) places found.0 narrow found.1 in
    ap (λ n. n / 2 ^ 32) (sym (eqb-true _ _ (both (is_word found.0.word) (entry_of id found.0 == entry) found.2).1)) ∙ whole_of id found.0.path.0 found.0.position fits.0 fits.1

narrow_places : (id : ℕ) (documents : List Document) → AllNarrow documents → AreNarrow (places_of id documents)
narrow_places id [] narrow = tt
narrow_places id (d ∷ ds) narrow = pick (d.id == id) (narrow_places id ds narrow.1)
  where
    pick : (b : Bool) → AreNarrow (places_of id ds) → AreNarrow (cond b d.places (places_of id ds))
    pick true rest = narrow.0
    pick false rest = rest

no_places : (id : ℕ) (documents : List Document) → names id documents ≡ false → places_of id documents ≡ []
no_places id [] none = refl
no_places id (d ∷ ds) none = by (d.id == id) none (no_places id ds)
  where
    by : (b : Bool) → (b || names id ds) ≡ false → (names id ds ≡ false → places_of id ds ≡ []) → cond b d.places (places_of id ds) ≡ []
    by true h rest = absurd (cc)
    by false h rest = rest h

first : (here later at : Bool) → (later && at) ≡ false → (here ≡ true → at ≡ true) → ((here || later) && at) ≡ here
first true later at none is = is refl
first false later at none is = none

last : (here later at : Bool) → (here ≡ true → at ≡ true → ⊥) → ((here || later) && at) ≡ (later && at)
last true later true never = absurd (never refl refl)
last true true false never = refl
last true false false never = refl
last false later at never = refl

-- a word that passes a test stands at the entry in some document
abbrev stands_by : (List ℕ → Bool) → ℕ → List Document → Bool
stands_by is_word entry documents = list_any (λ document. list_any (is_there is_word entry document.id) document.places) documents

-- of what stands in the documents, that of one document stands at its places
stands_at_home : (is_word : List ℕ → Bool) (entry id : ℕ) (documents : List Document) → AllNarrow documents → AreApart documents
    → (stands_by is_word entry documents && (entry / 2 ^ 32 == id)) ≡ list_any (is_there is_word entry id) (places_of id documents)
stands_at_home is_word entry id [] narrow apart = refl
stands_at_home is_word entry id (d ∷ ds) narrow apart =
    by (list_any (is_there is_word entry d.id) d.places) (stands_by is_word entry ds) (entry / 2 ^ 32 == id) (d.id == id) refl refl refl (stands_at_home is_word entry id ds narrow.1 apart.1)
  where
    by : (here later at same : Bool) → list_any (is_there is_word entry d.id) d.places ≡ here → (entry / 2 ^ 32 == id) ≡ at → (d.id == id) ≡ same
        → (later && at) ≡ list_any (is_there is_word entry id) (places_of id ds)
        → ((here || later) && at) ≡ list_any (is_there is_word entry id) (cond same d.places (places_of id ds))
    by here later at true h a s rest =
        let one : d.id ≡ id = eqb-true _ _ s in
        let here_is : list_any (is_there is_word entry id) d.places ≡ here = ap (λ n. list_any (is_there is_word entry n) d.places) (sym one) ∙ h in
        let none : (later && at) ≡ false = rest ∙ ap (list_any (is_there is_word entry id)) (no_places id ds (subst (λ (n : ℕ). names n ds ≡ false) one apart.0)) in
        first here later at none (λ is. sym a ∙ eq-eqb _ _ (home is_word entry d.id d.places narrow.0 (h ∙ is) ∙ one)) ∙ sym here_is
    by here later at false h a s rest =
        last here later at (λ is in_it. clash (d.id == id) (eq-eqb _ _ (sym (home is_word entry d.id d.places narrow.0 (h ∙ is)) ∙ eqb-true _ _ (a ∙ in_it))) s) ∙ rest

turned_bytes : (a b : List ℕ) → bytes_eq a b ≡ bytes_eq b a
turned_bytes a b = sym (is_eq-slice_cmp a b) ∙ turned a b ∙ is_eq-slice_cmp b a

-- the entries of a word in a document, by either order of the test
pub asked_entries : (view : PostingsView) (documents : List Document) (word : List ℕ) (id : ℕ) → StandsFor view documents
    → AreEntriesOf id (places_of id documents) (is_asked false word) (run_of id (list_at word view))
asked_entries view documents word id fresh = record {
  each = λ entry.
      has-filter (λ e. e / 2 ^ 32 == id) (list_at word view) entry
      ∙ ap (λ b. b && (entry / 2 ^ 32 == id)) (fresh.each word entry)
      ∙ stands_at_home (λ w. bytes_eq w word) entry id documents fresh.narrow fresh.apart;
}

pub word_entries : (view : PostingsView) (documents : List Document) (word : List ℕ) (id : ℕ) → StandsFor view documents
    → AreEntriesOf id (places_of id documents) (bytes_eq word) (run_of id (list_at word view))
word_entries view documents word id fresh = record {
  each = λ entry.
      (asked_entries view documents word id fresh).each entry
      ∙ list_any-same _ _ (λ place. ap (λ b. b && (entry_of id place == entry)) (turned_bytes place.word word)) (places_of id documents);
}

-- ---- the words that begin so
swapped : (a b : Bool) → (a && b) ≡ (b && a)
swapped true true = refl
swapped true false = refl
swapped false true = refl
swapped false false = refl

-- where a word stands that begins so, by its path and position
abbrev begins_so : List ℕ → ℕ → List Place → Bool
begins_so prefix entry places = words_stand_at places true (path_of entry) (position_of entry) (prefix ∷ [])

begins_there : (prefix : List ℕ) (entry : ℕ) (places : List Place) → AreNarrow places
    → list_any (is_word_at true (path_of entry) (position_of entry) prefix) places ≡ list_any (is_there (λ word. starts_with nat_eq word prefix) entry (document_of entry)) places
begins_there prefix entry [] narrow = refl
begins_there prefix entry (place ∷ places) narrow =
    ap₂ ◌||◌ (swapped ((place.path.0 == path_of entry) && (place.position == position_of entry)) (starts_with nat_eq place.word prefix)
    ∙ ap (λ b. starts_with nat_eq place.word prefix && b) (sym (at_parts entry place narrow.0)))
    (begins_there prefix entry places narrow.1)

begins_at_home : (documents : List Document) → AllNarrow documents → (prefix : List ℕ) (entry id : ℕ)
    → (begins_so prefix entry (places_of (document_of entry) documents) && (entry / 2 ^ 32 == id)) ≡ list_any (is_there (λ word. starts_with nat_eq word prefix) entry id) (places_of id documents)
begins_at_home documents narrow prefix entry id = by (entry / 2 ^ 32 == id) refl
  where
    one : (b : Bool) → ((b && true) && true) ≡ b
    one true = refl
    one false = refl

    none : (b : Bool) → (b && false) ≡ false
    none true = refl
    none false = refl

    by : (b : Bool) → (entry / 2 ^ 32 == id) ≡ b
        → (begins_so prefix entry (places_of (document_of entry) documents) && b) ≡ list_any (is_there (λ word. starts_with nat_eq word prefix) entry id) (places_of id documents)
    by true e = subst (λ (n : ℕ). (begins_so prefix entry (places_of (document_of entry) documents) && true) ≡ list_any (is_there (λ word. starts_with nat_eq word prefix) entry n) (places_of n documents))
        (eqb-true _ _ e)
        (one (list_any (is_word_at true (path_of entry) (position_of entry) prefix) (places_of (document_of entry) documents))
        ∙ begins_there prefix entry (places_of (document_of entry) documents) (narrow_places (document_of entry) documents narrow))
    by false e = none (begins_so prefix entry (places_of (document_of entry) documents))
        ∙ sym (false_from_ne_true _ (λ h. clash (entry / 2 ^ 32 == id) (eq-eqb _ _ (home (λ word. starts_with nat_eq word prefix) entry id (places_of id documents) (narrow_places id documents narrow) h)) e))

-- the entries of the words that begin so
pub prefix_entries : (documents : List Document) (view : PrefixView) → AreGathered documents view → (universe entries : List ℕ) (id : ℕ) → has_id universe id ≡ true
    → ((entry : ℕ) → has entries entry ≡ (in_rows view entry && has_id universe (entry / 2 ^ 32)))
    → AreEntriesOf id (places_of id documents) (is_asked true view.prefix) (run_of id entries)
prefix_entries documents view are universe entries id member told = record {
  each = λ entry.
      has-filter (λ e. e / 2 ^ 32 == id) entries entry
      ∙ ap (λ b. b && (entry / 2 ^ 32 == id)) (told entry)
      ∙ by (in_rows view entry) (has_id universe (entry / 2 ^ 32)) (entry / 2 ^ 32 == id) (λ is. ap (has_id universe) (eqb-true _ _ is) ∙ member)
      ∙ ap (λ b. b && (entry / 2 ^ 32 == id)) (are.each entry)
      ∙ begins_at_home documents are.narrow view.prefix entry id;
}
  where
    by : (there inside at : Bool) → (at ≡ true → inside ≡ true) → ((there && inside) && at) ≡ (there && at)
    by true inside true is = ap (λ b. b && true) (is refl)
    by true true false is = refl
    by true false false is = refl
    by false inside at is = refl

-- ---- the costs of all documents of a universe
ids_same : (f g : ℕ → ℕ) (k : ℕ) (ids : List ℕ) → ((id : ℕ) → has_id ids id ≡ true → f id ≡ g id) → ids_at f ids k ≡ ids_at g ids k
ids_same f g k [] same = refl
ids_same f g k (id ∷ ids) same =
    ap₂ (λ (n : ℕ) (v : List ℕ). cond (n == k) (id ∷ v) v) (same id (ap (λ b. b || has_id ids id) (eq-eqb id id refl)))
    (ids_same f g k ids (λ q h. same q (ap (λ b. id == q || b) h ∙ or_true (id == q))))

map_same : (f g : ℕ → List ℕ) → ((k : ℕ) → f k ≡ g k) → (ks : List ℕ) → map f ks ≡ map g ks
map_same f g same [] = refl
map_same f g same (k ∷ ks) = ap₂ ◌∷◌ (same k) (map_same f g same ks)

pub asked_costs : (universe left right : List ℕ) (documents : List Document) (word : List ℕ) (prefix : Bool) (other : List ℕ) → AllNarrow documents
    → ((id : ℕ) → AreEntriesOf id (places_of id documents) (bytes_eq word) (run_of id left))
    → ((id : ℕ) → has_id universe id ≡ true → AreEntriesOf id (places_of id documents) (is_asked prefix other) (run_of id right))
    → ids_by_cost (cost_in left right) universe ≡ ids_by_cost (λ id. asked_cost (places_of id documents) word prefix other) universe
asked_costs universe left right documents word prefix other narrow lefts rights =
    map_same _ _ (λ k. ids_same (cost_in left right) (λ id. asked_cost (places_of id documents) word prefix other) k universe
    (λ id member. document_cost id (places_of id documents) (bytes_eq word) (is_asked prefix other) (run_of id left) (run_of id right)
    (narrow_places id documents narrow) (lefts id) (rights id member))) (range_with_len 0 7)

-- Where a word's entries are, by the places of one document.
use Rattle.std.proofs.Common.{◌≡◌, ℕ, ◌+◌, ◌*◌, ◌^◌, ◌<◌, ◌≤◌, Bool, true, false, ◌&&◌, ◌||◌, inl, inr, cond, List, [], ◌∷◌, length, map, eqb, refl, sym, ap, ap₂, ◌∙◌, arith}
use Rattle.std.specs.List.{list_any}
use Rattle.std.specs.Str.{bytes_eq}
use Rattle.std.specs.Cmp.{both_ways}
use Rattle.std.proofs.lemmas.List.{length-map}
use Rattle.std.proofs.lemmas.Bool.{cond-true, cond-false, cond_both, eqb-true, eqb-false, eq-eqb, ne_eqb, leb-true, leb-false, false_from_ne_true, and_from, and_left, and_right, or_from, or_right, cases_lt}
use Rattle.search_base.specs.declared.document.Place.{Place}
use Rattle.search_base.specs.Occurrence.{is_word_at, words_stand_at}
use Rattle.sorted_pages.specs.Entries.{has}
use Rattle.postings.specs.Dictionary.{PostingsView, list_at}
use Rattle.postings.specs.Documents.{Document, entry_of, stands_in, stands, AreNarrow, AllNarrow, has_id, AreApart, places_of}
use Rattle.postings.specs.Fresh.{StandsFor}
use Rattle.postings.proofs.FreshLemmas.{home_of}
use Rattle.posting_sets.specs.Entries.{document_of, path_of, position_of}
use Rattle.posting_sets.specs.Starts.{stand_all, is_within, is_start}
use Rattle.posting_sets.proofs.WalkLemmas.{both_true, either_true}

pub narrow_at : (id : ℕ) (documents : List Document) → AllNarrow documents → AreNarrow (places_of id documents)
narrow_at id [] narrow = tt
narrow_at id (d ∷ ds) narrow = cond_both (eqb d.id id) d.places (places_of id ds) AreNarrow (λ _. narrow.0) (λ _. narrow_at id ds narrow.1)

no_more : (a b : Bool) → b ≡ false → (a || b) ≡ a
no_more true b e = refl
no_more false b e = e

-- what stands in some documents stands in one with the number of its entry
homes_of : (word : List ℕ) (entry : ℕ) (documents : List Document) → AllNarrow documents → stands word entry documents ≡ true → has_id (document_of entry) documents ≡ true
homes_of word entry [] narrow h = absurd (cc)
homes_of word entry (d ∷ ds) narrow h = either_true (stands_in word entry d.id d.places) (stands word entry ds) h
    (λ here. ap (λ b. b || has_id (document_of entry) ds) (eq-eqb d.id (document_of entry) (home_of word entry d.id d.places narrow.0 here)))
    (λ there. or_right (eqb d.id (document_of entry)) _ (homes_of word entry ds narrow.1 there))

-- an entry is a place of the document whose number it has
pub at_home : (word : List ℕ) (entry : ℕ) (documents : List Document) → AllNarrow documents → AreApart documents
    → stands word entry documents ≡ stands_in word entry (document_of entry) (places_of (document_of entry) documents)
at_home word entry [] narrow apart = refl
at_home word entry (d ∷ ds) narrow apart = by (at_home word entry ds narrow.1 apart.1) (eqb d.id (document_of entry)) refl
  where
    by : stands word entry ds ≡ stands_in word entry (document_of entry) (places_of (document_of entry) ds) → (b : Bool) → eqb d.id (document_of entry) ≡ b
        → (stands_in word entry d.id d.places || stands word entry ds) ≡ stands_in word entry (document_of entry) (cond (eqb d.id (document_of entry)) d.places (places_of (document_of entry) ds))
    by again true e =
        let same = eqb-true d.id (document_of entry) e in
        let others : stands word entry ds ≡ false =
        false_from_ne_true _ (λ t. let there = homes_of word entry ds narrow.1 t in let none = apart.0 in let moved = ap (λ id. has_id id ds) same in cc) in
        no_more (stands_in word entry d.id d.places) _ others
        ∙ ap (λ id. stands_in word entry id d.places) same
        ∙ ap (stands_in word entry (document_of entry)) (sym (cond-true _ d.places (places_of (document_of entry) ds) e))
    by again false e =
        let here : stands_in word entry d.id d.places ≡ false =
        false_from_ne_true _ (λ t. eqb-false d.id (document_of entry) e (home_of word entry d.id d.places narrow.0 t)) in
        ap (λ b. b || stands word entry ds) here ∙ again
        ∙ ap (stands_in word entry (document_of entry)) (sym (cond-false _ d.places (places_of (document_of entry) ds) e))

-- the parts of a place's entry
parts_document : (id path position : ℕ) → path < 2 ^ 16 → position < 2 ^ 16 → document_of (id * 2 ^ 32 + path * 2 ^ 16 + position) ≡ id
parts_document id path position p q = omega arith

parts_path : (id path position : ℕ) → path < 2 ^ 16 → position < 2 ^ 16 → path_of (id * 2 ^ 32 + path * 2 ^ 16 + position) ≡ path
parts_path id path position p q = omega arith

parts_position : (id path position : ℕ) → path < 2 ^ 16 → position < 2 ^ 16 → position_of (id * 2 ^ 32 + path * 2 ^ 16 + position) ≡ position
parts_position id path position p q = omega arith

parts_all : (entry : ℕ) → entry ≡ document_of entry * 2 ^ 32 + path_of entry * 2 ^ 16 + position_of entry
parts_all entry = omega arith

module _ (id : ℕ) (place : Place) (narrow : (place.path.0 < 2 ^ 16) × (place.position < 2 ^ 16)) where
  pub document_at : document_of (entry_of id place) ≡ id
  document_at = parts_document id place.path.0 place.position narrow.0 narrow.1

  pub path_at : path_of (entry_of id place) ≡ place.path.0
  path_at = parts_path id place.path.0 place.position narrow.0 narrow.1

  pub position_at : position_of (entry_of id place) ≡ place.position
  position_at = parts_position id place.path.0 place.position narrow.0 narrow.1

pub entry_there : (entry id : ℕ) (place : Place) → document_of entry ≡ id → place.path.0 ≡ path_of entry → place.position ≡ position_of entry → entry_of id place ≡ entry
entry_there entry id place d p q =
    ap (λ i. i * 2 ^ 32 + place.path.0 * 2 ^ 16 + place.position) (sym d)
    ∙ ap₂ (λ x y. document_of entry * 2 ^ 32 + x * 2 ^ 16 + y) p q ∙ sym (parts_all entry)

pub is_there : (entry : ℕ) (place : Place) → (place.path.0 < 2 ^ 16) × (place.position < 2 ^ 16)
    → eqb (entry_of (document_of entry) place) entry ≡ (eqb place.path.0 (path_of entry) && eqb place.position (position_of entry))
is_there entry place narrow = both_ways _ _
    (λ t.
    let same = eqb-true _ _ t in
    and_from _ _ (eq-eqb _ _ (sym (path_at (document_of entry) place narrow) ∙ ap path_of same))
    (eq-eqb _ _ (sym (position_at (document_of entry) place narrow) ∙ ap position_of same)))
    (λ t.
    let both = both_true _ _ t in
    eq-eqb _ _ (entry_there entry (document_of entry) place refl (eqb-true _ _ both.0) (eqb-true _ _ both.1)))

turned : (c a b : Bool) → (c && (a && b)) ≡ ((a && b) && c)
turned true true true = refl
turned true true false = refl
turned true false b = refl
turned false true true = refl
turned false true false = refl
turned false false b = refl

-- a word's entry, by the places of the document
pub word_at : (word : List ℕ) (entry : ℕ) (places : List Place) → AreNarrow places
    → stands_in word entry (document_of entry) places ≡ list_any (is_word_at false (path_of entry) (position_of entry) word) places
word_at word entry [] narrow = refl
word_at word entry (place ∷ places) narrow =
    ap₂ (λ a b. a || b)
    (ap (λ b. bytes_eq place.word word && b) (is_there entry place narrow.0)
    ∙ turned (bytes_eq place.word word) (eqb place.path.0 (path_of entry)) (eqb place.position (position_of entry)))
    (word_at word entry places narrow.1)

-- no word is at a position past the last
none_past : (prefix : Bool) (path position : ℕ) (word : List ℕ) (places : List Place) → AreNarrow places → 2 ^ 16 ≤ position → list_any (is_word_at prefix path position word) places ≡ false
none_past prefix path position word [] narrow l = refl
none_past prefix path position word (place ∷ places) narrow l =
    let apart : eqb place.position position ≡ false = ne_eqb place.position position (λ e. let m = narrow.0.1 in omega arith) in
    or_from _ _ (and_left _ _ (and_right (eqb place.path.0 path) _ apart)) (none_past prefix path position word places narrow.1 l)

beyond : (prefix : Bool) (path position : ℕ) (words : List (List ℕ)) (places : List Place) → AreNarrow places → position ≤ 2 ^ 16 → 2 ^ 16 < position + length words
    → words_stand_at places prefix path position words ≡ false
beyond prefix path position [] places narrow l m = absurd (omega arith)
beyond prefix path position (word ∷ words) places narrow l m = elim (cases_lt position (2 ^ 16)) [
  | inl less ↦ and_right _ _ (beyond prefix path (position + 1) words places narrow (omega arith) (omega arith))
  | inr more ↦ and_left _ _ (none_past prefix path position word places narrow more)
]

-- ---- words in a row, by their lists and by the places of the document
module _ (view : PostingsView) (documents : List Document) (fresh : StandsFor view documents) where
  pub has_at : (word : List ℕ) (entry : ℕ) → has (list_at word view) entry
      ≡ list_any (is_word_at false (path_of entry) (position_of entry) word) (places_of (document_of entry) documents)
  has_at word entry =
      fresh.each word entry ∙ at_home word entry documents fresh.narrow fresh.apart
      ∙ word_at word entry (places_of (document_of entry) documents) (narrow_at (document_of entry) documents fresh.narrow)

  -- so far behind an entry that it is in the same path
  module _ (start k : ℕ) (l : position_of start + k < 2 ^ 16) where
    document_on : document_of (start + k) ≡ document_of start
    document_on = omega arith

    path_on : path_of (start + k) ≡ path_of start
    path_on = omega arith

    position_on : position_of (start + k) ≡ position_of start + k
    position_on = omega arith

    has_on : (word : List ℕ) → has (list_at word view) (start + k)
        ≡ list_any (is_word_at false (path_of start) (position_of start + k) word) (places_of (document_of start) documents)
    has_on word =
        has_at word (start + k)
        ∙ ap (λ id. list_any (is_word_at false (path_of (start + k)) (position_of (start + k)) word) (places_of id documents)) document_on
        ∙ ap₂ (λ path position. list_any (is_word_at false path position word) (places_of (document_of start) documents)) path_on position_on

  rows_from : (start k : ℕ) (words : List (List ℕ)) → position_of start + k + length words ≤ 2 ^ 16
      → stand_all k (map (λ word. list_at word view) words) start
      ≡ words_stand_at (places_of (document_of start) documents) false (path_of start) (position_of start + k) words
  rows_from start k [] l = refl
  rows_from start k (word ∷ words) l =
      ap₂ (λ a b. a && b) (has_on start k (omega arith) word)
      (rows_from start (k + 1) words (omega arith)
      ∙ ap (λ position. words_stand_at (places_of (document_of start) documents) false (path_of start) position words) (let e : position_of start + (k + 1) ≡ position_of start + k + 1 = omega arith in e))

  pub start_at : (words : List (List ℕ)) (start : ℕ) → is_start (map (λ word. list_at word view) words) start
      ≡ words_stand_at (places_of (document_of start) documents) false (path_of start) (position_of start) words
  start_at words start = by (is_within (length (map (λ word. list_at word view) words)) start) refl
    where
      long : length (map (λ word. list_at word view) words) ≡ length words
      long = length-map words (λ word. list_at word view)

      by : (b : Bool) → is_within (length (map (λ word. list_at word view) words)) start ≡ b → (is_within (length (map (λ word. list_at word view) words)) start && stand_all 0 (map (λ word. list_at word view) words) start)
          ≡ words_stand_at (places_of (document_of start) documents) false (path_of start) (position_of start) words
      by true t =
          let l = leb-true (position_of start + length (map (λ word. list_at word view) words)) (2 ^ 16) t in
          ap (λ a. a && stand_all 0 (map (λ word. list_at word view) words) start) t ∙ rows_from start 0 words (omega (arith, long))
          ∙ ap (λ position. words_stand_at (places_of (document_of start) documents) false (path_of start) position words) (let e : position_of start + 0 ≡ position_of start = omega arith in e)
      by false f =
          let l = leb-false (position_of start + length (map (λ word. list_at word view) words)) (2 ^ 16) f in
          ap (λ a. a && stand_all 0 (map (λ word. list_at word view) words) start) f
          ∙ sym (beyond false (path_of start) (position_of start) words (places_of (document_of start) documents) (narrow_at (document_of start) documents fresh.narrow) (omega arith) (omega (arith, long)))

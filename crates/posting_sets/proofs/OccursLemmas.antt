-- The documents in which a term occurs, by the entries where it begins.
use Rattle.std.proofs.Common.{◌≡◌, ℕ, ◌+◌, ◌<◌, inl, inr, Bool, true, false, ◌&&◌, ◌||◌, List, [], ◌∷◌, length, map, eqb, Result, Ok, Err, IfOk, refl, sym, ap, ap₂, subst, ◌∙◌, arith}
use Rattle.std.specs.List.{filter, list_any}
use Rattle.std.specs.Cmp.{both_ways}
use Rattle.std.proofs.lemmas.List.{nil_from_length}
use Rattle.std.proofs.lemmas.Bool.{true≢false, eqb-true, eq-eqb, and_from, and_left, and_right, or_left, or_right}
use Rattle.search_base.specs.declared.document.Place.{Place}
use Rattle.search_base.specs.Occurrence.{is_word_at, words_stand_at, occurs_at, occurs}
use Rattle.search_base.specs.TermView.{TermView}
use Rattle.search_base.proofs.Members.{Among, All-among}
use Rattle.sorted_pages.specs.Entries.{has, IsIncreasing}
use Rattle.sorted_pages.proofs.SetLemmas.{has-filter, increasing-filter, increasing-same}
use Rattle.postings.specs.Documents.{Document, entry_of, AreNarrow, AllNarrow, places_of}
use Rattle.postings.specs.Dictionary.{PostingsView, list_at}
use Rattle.postings.specs.Fresh.{StandsFor}
use Rattle.posting_sets.specs.Entries.{document_of, path_of, position_of}
use Rattle.posting_sets.specs.Starts.{stand_all, is_within, is_start, AreStarts}
use Rattle.posting_sets.specs.Found.{Finds, AreInLists, occurring, AreOccurring, term_of, lacks_list}
use Rattle.posting_sets.proofs.WalkLemmas.{both_true, either_true}
use Rattle.posting_sets.proofs.PlaceLemmas.{start_at, narrow_at, document_at, path_at, position_at, entry_there}

-- ---- a test that a member of a list passes
pub list_any-found : {X : Type 0} (test : X → Bool) (xs : List X) → list_any test xs ≡ true → (x : X) × Among xs x × (test x ≡ true)
list_any-found test [] h = absurd (cc)
list_any-found test (z ∷ zs) h = either_true (test z) (list_any test zs) h
    (λ here. (z, inl refl, here)) (λ there. let found = list_any-found test zs there in (found.0, inr found.1, found.2))

pub list_any-from : {X : Type 0} (test : X → Bool) (xs : List X) (x : X) → Among xs x → test x ≡ true → list_any test xs ≡ true
list_any-from test [] x h is = absurd h
list_any-from test (z ∷ zs) x (inl same) is = or_left _ _ (ap test same ∙ is)
list_any-from test (z ∷ zs) x (inr later) is = or_right (test z) _ (list_any-from test zs x later is)

pub has_found : (test : ℕ → Bool) (xs : List ℕ) → list_any test xs ≡ true → (x : ℕ) × (has xs x ≡ true) × (test x ≡ true)
has_found test [] h = absurd (cc)
has_found test (x ∷ xs) h = either_true (test x) (list_any test xs) h
    (λ here. (x, ap (λ b. b || has xs x) (eq-eqb x x refl), here))
    (λ there. let found = has_found test xs there in (found.0, or_right (eqb x found.0) _ found.1, found.2))

pub has_from : (test : ℕ → Bool) (xs : List ℕ) (x : ℕ) → has xs x ≡ true → test x ≡ true → list_any test xs ≡ true
has_from test [] x h t = absurd (cc)
has_from test (y ∷ ys) x h t = either_true (eqb y x) (has ys x) h
    (λ here. or_left (test y) _ (ap test (eqb-true y x here) ∙ t))
    (λ there. or_right (test y) _ (has_from test ys x there t))

pub finds_starts : (ids : List ℕ) (lists : List (List ℕ)) (starts : List ℕ) (test : ℕ → Bool) → AreStarts ids lists starts
    → Finds ids (is_start lists) test (list_any test starts)
finds_starts ids lists starts test are = record {
  found = λ h. let f = has_found test starts h in let both = both_true _ _ (sym (are.each f.0) ∙ f.1) in (f.0, both.0, both.1, f.2);
  from = λ entry inside start t. has_from test starts entry (are.each entry ∙ and_from _ _ inside start) t;
}

-- ---- the starts of a term in the documents
module _ (documents : List Document) (narrow : AllNarrow documents) (term : TermView) (word : List ℕ) (words : List (List ℕ)) (is : term.words ≡ word ∷ words)
    (start : ℕ → Bool)
    (starts : (entry : ℕ) → start entry ≡ words_stand_at (places_of (document_of entry) documents) term.prefix (path_of entry) (position_of entry) term.words) where
  first_word : (places : List Place) (path position : ℕ) → words_stand_at places term.prefix path position term.words ≡ true
      → list_any (is_word_at term.prefix path position word) places ≡ true
  first_word places path position h =
      (both_true _ _ (ap (words_stand_at places term.prefix path position) (sym is) ∙ h)).0

  module _ (ids : List ℕ) (id : ℕ) (test : ℕ → Bool) (of : (entry : ℕ) → test entry ≡ true → document_of entry ≡ id) (b : Bool) (finds : Finds ids start test b) where
    abbrev places : List Place
    places = places_of id documents

    abbrev passes : Place → Bool
    passes place = occurs_at places term place && test (entry_of id place)

    places_narrow : AreNarrow places
    places_narrow = narrow_at id documents narrow

    found_place : b ≡ true → (has ids id && list_any passes places) ≡ true
    found_place h =
        let f = finds.found h in
        let entry = f.0 in
        let home : document_of entry ≡ id = of entry f.3 in
        let stand : words_stand_at places term.prefix (path_of entry) (position_of entry) term.words ≡ true =
        ap (λ d. words_stand_at (places_of d documents) term.prefix (path_of entry) (position_of entry) term.words) (sym home) ∙ sym (starts entry) ∙ f.2 in
        let at = list_any-found _ places (first_word places (path_of entry) (position_of entry) stand) in
        let place = at.0 in
        let there = both_true _ _ (both_true _ _ at.2).0 in
        let path : place.path.0 ≡ path_of entry = eqb-true _ _ there.0 in
        let position : place.position ≡ position_of entry = eqb-true _ _ there.1 in
        let occurs_here : occurs_at places term place ≡ true =
        ap₂ (λ p q. words_stand_at places term.prefix p q term.words) path position ∙ stand in
        and_from _ _ (ap (has ids) (sym home) ∙ f.1)
        (list_any-from passes places place at.1 (and_from _ _ occurs_here (ap test (entry_there entry id place home path position) ∙ f.3)))

    from_place : (has ids id && list_any passes places) ≡ true → b ≡ true
    from_place h =
        let both = both_true _ _ h in
        let at = list_any-found passes places both.1 in
        let place = at.0 in
        let entry = entry_of id place in
        let small = All-among _ places place places_narrow at.1 in
        let here = both_true _ _ at.2 in
        let home = document_at id place small in
        finds.from entry (ap (has ids) home ∙ both.0)
        (starts entry
        ∙ ap (λ d. words_stand_at (places_of d documents) term.prefix (path_of entry) (position_of entry) term.words) home
        ∙ ap₂ (λ p q. words_stand_at places term.prefix p q term.words) (path_at id place small) (position_at id place small) ∙ here.0)
        here.1

    pub by_places : b ≡ (has ids id && list_any passes places)
    by_places = both_ways b _ found_place from_place

-- ---- documents
occurs_plain : (all places : List Place) (term : TermView) (id : ℕ) → AreNarrow places
    → list_any (λ place. occurs_at all term place && eqb (document_of (entry_of id place)) id) places ≡ list_any (occurs_at all term) places
occurs_plain all [] term id narrow = refl
occurs_plain all (place ∷ places) term id narrow =
    ap₂ (λ a b. (occurs_at all term place && a) || b) (eq-eqb _ _ (document_at id place narrow.0)) (occurs_plain all places term id narrow.1)
    ∙ ap (λ a. a || list_any (occurs_at all term) places) (and_true (occurs_at all term place))
  where
    and_true : (a : Bool) → (a && true) ≡ a
    and_true true = refl
    and_true false = refl

-- a set of the documents of the starts is that of the documents in which the term occurs
pub occurring_is : (documents : List Document) → AllNarrow documents → (term : TermView) (word : List ℕ) (words : List (List ℕ)) → term.words ≡ word ∷ words → (start : ℕ → Bool)
    → ((entry : ℕ) → start entry ≡ words_stand_at (places_of (document_of entry) documents) term.prefix (path_of entry) (position_of entry) term.words)
    → (ids set : List ℕ) → IsIncreasing ids → IsIncreasing set → ((id : ℕ) → Finds ids start (λ entry. eqb (document_of entry) id) (has set id))
    → set ≡ occurring documents term ids
occurring_is documents narrow term word words is start starts ids set up set_up finds =
    let asks : ℕ → Bool = λ id. occurs (places_of id documents) term in
    increasing-same set (filter asks ids) set_up (increasing-filter asks ids up) (λ id.
    by_places documents narrow term word words is start starts ids id (λ entry. eqb (document_of entry) id) (λ entry t. eqb-true _ _ t) (has set id) (finds id)
    ∙ ap (λ b. has ids id && b) (occurs_plain (places_of id documents) (places_of id documents) term id (narrow_at id documents narrow))
    ∙ sym (has-filter asks ids id))

-- ---- words in a row
pub first_of : (words : List (List ℕ)) → 0 < length words → (word : List ℕ) × (rest : List (List ℕ)) × (words ≡ word ∷ rest)
first_of [] l = absurd (omega arith)
first_of (word ∷ rest) l = (word, rest, refl)

module _ (view : PostingsView) (words : List (List ℕ)) (some : 0 < length words) where
  abbrev lists : List (List ℕ)
  lists = map (λ word. list_at word view) words

  pub finds_words : (documents : List Document) → StandsFor view documents → (ids set : List ℕ) → IsIncreasing ids → IsIncreasing set
      → ((id : ℕ) → Finds ids (is_start lists) (λ entry. eqb (document_of entry) id) (has set id)) → set ≡ occurring documents (term_of false words) ids
  finds_words documents fresh ids set up set_up finds =
      let first = first_of words some in
      occurring_is documents fresh.narrow (term_of false words) first.0 first.1 first.2 (is_start lists) (start_at view documents fresh words) ids set up set_up finds

  pub words_found : (ids set : List ℕ) (walked : List (List ℕ)) → IsIncreasing ids → walked ≡ lists → AreInLists ids walked set → AreOccurring view (term_of false words) ids set
  words_found ids set walked up e are = λ documents fresh.
      let here : AreInLists ids lists set = subst (λ v. AreInLists ids v set) e are in finds_words documents fresh ids set up here.up here.each

  pub finds_lacking : (ids : List ℕ) (test : ℕ → Bool) → lacks_list view words ≡ true → Finds ids (is_start lists) test false
  finds_lacking ids test lacks = record {
    found = λ h. absurd (cc);
    from = λ entry inside start t. absurd (true≢false (sym (both_true (is_within (length lists) entry) _ start).1 ∙ no_start 0 words lacks entry));
  }
    where
      no_start : (k : ℕ) (words : List (List ℕ)) → lacks_list view words ≡ true → (entry : ℕ) → stand_all k (map (λ word. list_at word view) words) entry ≡ false
      no_start k [] h entry = absurd (cc)
      no_start k (word ∷ words) h entry = either_true _ _ h
          (λ here. and_left _ _ (ap (λ v. has v (entry + k)) (nil_from_length (list_at word view) (eqb-true _ _ here))))
          (λ there. and_right _ _ (no_start (k + 1) words there entry))

  pub words_lacking : (ids set : List ℕ) → IsIncreasing ids → lacks_list view words ≡ true → set ≡ [] → AreOccurring view (term_of false words) ids set
  words_lacking ids set up lacks same = λ documents fresh.
      same ∙ finds_words documents fresh ids [] up tt (λ id. finds_lacking ids (λ entry. eqb (document_of entry) id) lacks)

pub ok_of : {X E : Type 0} (P Q : X → Type 0) (r : Result X E) → IfOk r P → ((x : X) → P x → Q x) → IfOk r Q
ok_of P Q (Ok x) h f = f x h
ok_of P Q (Err e) h f = tt

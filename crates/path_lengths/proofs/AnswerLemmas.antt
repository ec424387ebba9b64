-- The documents of a length, by the list of its key.
use Rattle.std.proofs.Common.{◌≡◌, ℕ, pos, ◌+◌, ◌^◌, ◌<◌, ◌==◌, Bool, true, false, ◌&&◌, ◌||◌, cond, List, [], ◌∷◌, map, filter, refl, ap, ap₂, subst, ◌∙◌, arith}
use Rattle.std.specs.List.{list_any, AllByRecursion}
use Rattle.std.specs.Str.{bytes_eq}
use Rattle.std.specs.Int.{w128}
use Rattle.std.specs.Int.RustNames.{FitsSigned}
use Rattle.std.specs.Cmp.{both_ways}
use Rattle.std.proofs.lemmas.Bool.{eqb-true, eq-eqb, and_from}
use Rattle.std.proofs.lemmas.Map.Text.{is_eq-slice_cmp}
use Rattle.search_base.specs.declared.document.Place.{Place}
use Rattle.search_base.specs.declared.value.FacetValue.TheVariants.{Number}
use Rattle.search_base.specs.Occurrence.{occurs_at, occurs, is_word_at}
use Rattle.search_base.specs.TermView.{TermView}
use Rattle.search_base.proofs.Members.{Among-map, Among-mapped}
use Rattle.postings.specs.Dictionary.{PostingsView}
use Rattle.postings.specs.Documents.{Document, AreNarrow, places_of}
use Rattle.postings.proofs.WordLemmas.{same_word, bytes_itself}
use Rattle.posting_sets.specs.Found.{AreOccurring, term_of}
use Rattle.posting_sets.proofs.WalkLemmas.{both_true}
use Rattle.posting_sets.proofs.OccursLemmas.{list_any-found, list_any-from}
use Rattle.posting_sets.proofs.PlaceLemmas.{narrow_at}
use Rattle.facet_keys.specs.Keys.{leaf, IsNarrow}
use Rattle.facet_keys.specs.Laws as laws
use Rattle.path_lengths.specs.Lengths.{is_last, has_length}
use Rattle.path_lengths.specs.Measured.{length_key, length_place, lengths_of, measured, AreLengthsOf}
use Rattle.path_lengths.proofs.BatchLemmas.{places_measured}

-- ---- a key among the places
key_occurs : (xs : List Place) (key : List ℕ) → occurs (map length_place xs) (term_of false (key ∷ []))
    ≡ list_any (λ place. bytes_eq (length_key place.path.0 (place.position + 1)) key) xs
key_occurs xs key = both_ways _ _ found from
  where
    found : occurs (map length_place xs) (term_of false (key ∷ [])) ≡ true → list_any (λ (place : Place). bytes_eq (length_key place.path.0 (place.position + 1)) key) xs ≡ true
    found h =
        let at = list_any-found (occurs_at (map length_place xs) (term_of false (key ∷ []))) (map length_place xs) h in
        let here = list_any-found (is_word_at false at.0.path.0 at.0.position key) (map length_place xs)
        (both_true (list_any (is_word_at false at.0.path.0 at.0.position key) (map length_place xs)) true at.2).0 in
        let own = Among-map length_place xs here.0 here.1 in
        list_any-from (λ (place : Place). bytes_eq (length_key place.path.0 (place.position + 1)) key) xs own.0 own.1 (ap (λ (p : Place). bytes_eq p.word key) own.2
        ∙ (both_true ((here.0.path.0 == at.0.path.0) && (here.0.position == at.0.position)) (bytes_eq here.0.word key) here.2).1)

    from : list_any (λ (place : Place). bytes_eq (length_key place.path.0 (place.position + 1)) key) xs ≡ true → occurs (map length_place xs) (term_of false (key ∷ [])) ≡ true
    from h =
        let at = list_any-found (λ (place : Place). bytes_eq (length_key place.path.0 (place.position + 1)) key) xs h in
        let there = Among-mapped length_place xs at.0 at.1 in
        list_any-from (occurs_at (map length_place xs) (term_of false (key ∷ []))) (map length_place xs) (length_place at.0) there
        (and_from _ true (list_any-from (is_word_at false 0 0 key) (map length_place xs) (length_place at.0) there at.2) refl)

any_filter : {X : Type 0} (f g : X → Bool) (xs : List X) → list_any f (filter g xs) ≡ list_any (λ x. g x && f x) xs
any_filter f g [] = refl
any_filter {X} f g (x ∷ xs) = by (g x) (any_filter f g xs)
  where
    by : (b : Bool) → list_any f (filter g xs) ≡ list_any (λ y. g y && f y) xs
        → list_any f (cond b (x ∷ filter g xs) (filter g xs)) ≡ ((b && f x) || list_any (λ y. g y && f y) xs)
    by true later = ap (λ b. f x || b) later
    by false later = later

any_where : {X : Type 0} (P : X → Type 0) (p q : X → Bool) (xs : List X) → AllByRecursion P xs → ((x : X) → P x → p x ≡ q x)
    → list_any p xs ≡ list_any q xs
any_where P p q [] all same = refl
any_where P p q (x ∷ xs) all same = ap₂ (λ a b. a || b) (same x all.0) (any_where P p q xs all.1 same)

-- ---- which key
number_fits : (n : ℕ) → n < 2 ^ 127 → FitsSigned w128 (pos n)
number_fits n low = record { sfits = low }

number_of_leaf : {n m : ℕ} → leaf (Number (pos n)) ≡ leaf (Number (pos m)) → n ≡ m
number_of_leaf e = cc

key_test : laws.AreApart → (p n q m : ℕ) → IsNarrow p (leaf (Number (pos n))) → IsNarrow q (leaf (Number (pos m)))
    → bytes_eq (length_key p n) (length_key q m) ≡ ((p == q) && (n == m))
key_test apart p n q m narrow asked = both_ways (bytes_eq (length_key p n) (length_key q m)) ((p == q) && (n == m))
    (λ h.
    let one : (p ≡ q) × (leaf (Number (pos n)) ≡ leaf (Number (pos m))) =
    apart p q (leaf (Number (pos n))) (leaf (Number (pos m))) narrow asked (same_word (length_key p n) (length_key q m) (is_eq-slice_cmp (length_key p n) (length_key q m) ∙ h)) in
    let same : n ≡ m = number_of_leaf one.1 in
    and_from _ _ (eq-eqb p q one.0) (eq-eqb n m same))
    (λ h.
    let both = both_true _ _ h in
    subst (λ key. bytes_eq (length_key p n) key ≡ true) (ap₂ length_key (eqb-true p q both.0) (eqb-true n m both.1)) (bytes_itself (length_key p n)))

pub length_occurs : laws.AreApart → (places : List Place) (path length : ℕ) → AreNarrow places → IsNarrow path (leaf (Number (pos length)))
    → occurs (lengths_of places) (term_of false (length_key path length ∷ [])) ≡ has_length places path length
length_occurs apart places path length narrow asked =
    key_occurs (filter (is_last places) places) (length_key path length)
    ∙ any_filter _ (is_last places) places
    ∙ any_where (λ (place : Place). (place.path.0 < 2 ^ 16) × (place.position < 2 ^ 16)) _ _ places narrow
    (λ place small. ap (λ b. is_last places place && b)
    (key_test apart place.path.0 (place.position + 1) path length (small.0, number_fits (place.position + 1) (let low = small.1 in omega arith)) asked))

filter_same : (p q : ℕ → Bool) (xs : List ℕ) → ((x : ℕ) → p x ≡ q x) → filter p xs ≡ filter q xs
filter_same p q [] same = refl
filter_same p q (x ∷ xs) same = ap₂ (λ b rest. cond b (x ∷ rest) rest) (same x) (filter_same p q xs same)

pub length_answer : laws.AreApart → (view : PostingsView) (path length : ℕ) (key : List ℕ) (term : TermView) (universe ids : List ℕ)
    → key ≡ length_key path length → IsNarrow path (leaf (Number (pos length))) → term ≡ term_of false (key ∷ []) → AreOccurring view term universe ids
    → (documents : List Document) → AreLengthsOf view documents → ids ≡ filter (λ id. has_length (places_of id documents) path length) universe
length_answer apart view path length key term universe ids is asked of found documents lengths =
    found (map measured documents) lengths.keys
    ∙ filter_same _ _ universe (λ id.
    ap₂ occurs (places_measured id documents) (of ∙ ap (λ k. term_of false (k ∷ [])) is)
    ∙ length_occurs apart (places_of id documents) path length (narrow_at id documents lengths.narrow) asked)

-- Documents by the least number of the places where a term occurs.
use Rattle.std.proofs.Common.{◌≡◌, ℕ, zero, suc, ◌^◌, ◌<◌, Bool, true, false, not, ◌&&◌, ◌||◌, cond, List, [], ◌∷◌, length, map, eqb, Option, None, Some, refl, sym, ap, ap₂, subst, ◌∙◌, arith}
use Rattle.std.specs.List.{list_any, filter}
use Rattle.std.specs.Option.{option_eq}
use Rattle.std.specs.Cmp.{both_ways}
use Rattle.std.proofs.lemmas.Bool.{eqb-true, eq-eqb, and_from, or_left, or_right, true≢false, true_from_ne_false}
use Rattle.search_base.specs.declared.document.Place.{Place}
use Rattle.search_base.specs.Occurrence.{words_stand_at, occurs_at}
use Rattle.search_base.specs.TermView.{TermView}
use Rattle.sorted_pages.specs.Entries.{has, IsIncreasing}
use Rattle.sorted_pages.proofs.SetLemmas.{has-filter, increasing-filter, increasing-same}
use Rattle.doc_sets.specs.SetView.{SetView}
use Rattle.postings.specs.Dictionary.{PostingsView, list_at}
use Rattle.postings.specs.Documents.{Document, entry_of, AreNarrow, AllNarrow, places_of}
use Rattle.postings.specs.Fresh.{StandsFor}
use Rattle.posting_sets.specs.declared.number.Number.{Number}
use Rattle.posting_sets.specs.Entries.{document_of, path_of, position_of}
use Rattle.posting_sets.specs.Starts.{is_start, AreStarts}
use Rattle.posting_sets.specs.Found.{Finds, term_of, lacks_list}
use Rattle.posting_sets.specs.Numbers.{set_at, least_number, numbered, AreNumbered}
use Rattle.posting_sets.specs.Gathered.{number_at, place_number, is_numbered, ids_at, is_below, has_number, AreLeast, AreOfNumbers}
use Rattle.posting_sets.specs.Prefixes.{PrefixView, in_rows, AreGathered, prefix_term}
use Rattle.posting_sets.proofs.WalkLemmas.{both_true, either_true}
use Rattle.posting_sets.proofs.PlaceLemmas.{start_at, narrow_at, document_at, path_at, position_at}
use Rattle.posting_sets.proofs.OccursLemmas.{finds_starts, finds_lacking, first_of, by_places}
use Rattle.posting_sets.proofs.PrefixLemmas.{finds_rows}
use Rattle.posting_sets.proofs.LeastLemmas.{is_some_of, some_is, some_has, least_is, least_has, none_lower}

-- ---- the number of a place, by its entry
pub of_document : (number : Number) (n id entry : ℕ) → is_numbered number n id entry ≡ true → document_of entry ≡ id
of_document number n id entry h = eqb-true _ _ (both_true _ _ h).0

numbered_there : (number : Number) (n id : ℕ) (place : Place) → (place.path.0 < 2 ^ 16) × (place.position < 2 ^ 16)
    → is_numbered number n id (entry_of id place) ≡ option_eq eqb (place_number number place) (Some n)
numbered_there number n id place narrow =
    ap (λ b. b && option_eq eqb (number_at number (path_of (entry_of id place)) (position_of (entry_of id place))) (Some n)) (eq-eqb _ _ (document_at id place narrow))
    ∙ ap₂ (λ p q. option_eq eqb (number_at number p q) (Some n)) (path_at id place narrow) (position_at id place narrow)

numbered_all : (number : Number) (n id : ℕ) (all places : List Place) (term : TermView) → AreNarrow places
    → list_any (λ place. occurs_at all term place && is_numbered number n id (entry_of id place)) places
    ≡ list_any (λ place. occurs_at all term place && option_eq eqb (place_number number place) (Some n)) places
numbered_all number n id all [] term narrow = refl
numbered_all number n id all (place ∷ places) term narrow =
    ap₂ (λ a b. (occurs_at all term place && a) || b) (numbered_there number n id place narrow.0) (numbered_all number n id all places term narrow.1)

-- a set of a number's documents, by the places
pub number_is : (documents : List Document) → AllNarrow documents → (term : TermView) (word : List ℕ) (words : List (List ℕ)) → term.words ≡ word ∷ words → (start : ℕ → Bool)
    → ((entry : ℕ) → start entry ≡ words_stand_at (places_of (document_of entry) documents) term.prefix (path_of entry) (position_of entry) term.words)
    → (number : Number) (ids : List ℕ) (n id : ℕ) (b : Bool) → Finds ids start (is_numbered number n id) b → b ≡ has_number documents term (place_number number) ids n id
number_is documents narrow term word words is start starts number ids n id b finds =
    by_places documents narrow term word words is start starts ids id (is_numbered number n id) (of_document number n id) b finds
    ∙ ap (λ c. has ids id && c) (numbered_all number n id (places_of id documents) (places_of id documents) term (narrow_at id documents narrow))

-- ---- no set yet
pub no_set : (n id : ℕ) (sets : List (List ℕ)) → sets ≡ [] → has (ids_at n sets) id ≡ false
no_set n id sets e = ap (λ v. has (ids_at n v) id) e ∙ none n
  where
    none : (n : ℕ) → has (ids_at n []) id ≡ false
    none zero = refl
    none (suc n) = refl

-- ---- words in a row
module _ (view : PostingsView) (words : List (List ℕ)) (some : 0 < length words) (number : Number) (ids : List ℕ) where
  abbrev lists : List (List ℕ)
  lists = map (λ word. list_at word view) words

  words_number : (documents : List Document) → StandsFor view documents → (n id : ℕ) (b : Bool) → Finds ids (is_start lists) (is_numbered number n id) b
      → b ≡ has_number documents (term_of false words) (place_number number) ids n id
  words_number documents fresh n id b finds =
      let first = first_of words some in
      number_is documents fresh.narrow (term_of false words) first.0 first.1 first.2 (is_start lists) (start_at view documents fresh words) number ids n id b finds

  pub words_numbered : (walked : List (List ℕ)) (starts : List ℕ) (old sets : List (List ℕ)) → walked ≡ lists → AreStarts ids walked starts → old ≡ []
      → ((n id : ℕ) → has (ids_at n sets) id ≡ (list_any (is_numbered number n id) starts || has (ids_at n old) id)) → AreOfNumbers view (term_of false words) (place_number number) ids sets
  words_numbered walked starts old sets e are empty each = λ documents fresh n id.
      each n id ∙ ap (λ b. list_any (is_numbered number n id) starts || b) (no_set n id old empty) ∙ or_false (list_any (is_numbered number n id) starts)
      ∙ words_number documents fresh n id _ (finds_starts ids lists starts (is_numbered number n id) (subst (λ v. AreStarts ids v starts) e are))
    where
      or_false : (b : Bool) → (b || false) ≡ b
      or_false true = refl
      or_false false = refl

  pub words_without : (sets : List (List ℕ)) → lacks_list view words ≡ true → sets ≡ [] → AreOfNumbers view (term_of false words) (place_number number) ids sets
  words_without sets lacks e = λ documents fresh n id.
      no_set n id sets e ∙ words_number documents fresh n id false (finds_lacking view words some ids (is_numbered number n id) lacks)

-- ---- words that begin so
pub prefix_numbered : (view : PrefixView) (documents : List Document) → AreGathered documents view → (number : Number) (ids : List ℕ) (sets : List (List ℕ))
    → ((n id : ℕ) → has (ids_at n sets) id
    ≡ (list_any (λ row. has ids id && list_any (is_numbered number n id) row) view.long || (has ids id && list_any (is_numbered number n id) view.short)))
    → (n id : ℕ) → has (ids_at n sets) id ≡ has_number documents (prefix_term view) (place_number number) ids n id
prefix_numbered view documents are number ids sets each n id =
    each n id
    ∙ number_is documents are.narrow (prefix_term view) view.prefix [] refl (in_rows view) are.each number ids n id _
    (finds_rows ids id (is_numbered number n id) (of_document number n id) view)

-- ---- the sets before a number
below_found : (n id : ℕ) (sets : List (List ℕ)) → is_below n id sets ≡ true → (m : ℕ) × (m < n) × (has (ids_at m sets) id ≡ true)
below_found zero id [] h = absurd (cc)
below_found zero id (set ∷ sets) h = absurd (cc)
below_found (suc n) id [] h = absurd (cc)
below_found (suc n) id (set ∷ sets) h = either_true (has set id) (is_below n id sets) h
    (λ here. (0, omega arith, here))
    (λ there. let found = below_found n id sets there in (suc found.0, (let l = found.1 in omega arith), found.2))

below_from : (n m id : ℕ) (sets : List (List ℕ)) → m < n → has (ids_at m sets) id ≡ true → is_below n id sets ≡ true
below_from n m id [] l h = absurd (cc)
below_from zero m id (set ∷ sets) l h = absurd (omega arith)
below_from (suc n) zero id (set ∷ sets) l h = or_left _ _ h
below_from (suc n) (suc m) id (set ∷ sets) l h = or_right (has set id) _ (below_from n m id sets (omega arith) h)

-- ---- the least number
module _ (documents : List Document) (term : TermView) (number : Place → Option ℕ) (ids : List ℕ) (sets : List (List ℕ))
    (of : (n id : ℕ) → has (ids_at n sets) id ≡ has_number documents term number ids n id) where
  abbrev number_in : ℕ → Place → Option ℕ
  number_in id place = cond (occurs_at (places_of id documents) term place) (number place) None

  number_if : (b : Bool) (o : Option ℕ) (n : ℕ) → (b && option_eq eqb o (Some n)) ≡ option_eq eqb (cond b o None) (Some n)
  number_if true o n = refl
  number_if false o n = refl

  any_if : (id n : ℕ) (places : List Place) → list_any (λ place. occurs_at (places_of id documents) term place && option_eq eqb (number place) (Some n)) places
      ≡ some_has (number_in id) places n
  any_if id n [] = refl
  any_if id n (place ∷ places) = ap₂ (λ a b. a || b) (number_if (occurs_at (places_of id documents) term place) (number place) n) (any_if id n places)

  in_set : (n id : ℕ) → has (ids_at n sets) id ≡ (has ids id && some_has (number_in id) (places_of id documents) n)
  in_set n id = of n id ∙ ap (λ b. has ids id && b) (any_if id n (places_of id documents))

  by_least : (n id : ℕ) → (has (ids_at n sets) id && not (is_below n id sets)) ≡ (has ids id && option_eq eqb (least_number number (places_of id documents) term) (Some n))
  by_least n id = both_ways _ _
      (λ h.
      let both = both_true _ _ h in
      let here = both_true (has ids id) _ (sym (in_set n id) ∙ both.0) in
      and_from _ _ here.0 (some_is _ n (least_is (number_in id) (places_of id documents) n here.1 (λ m l t.
      true≢false (sym both.1 ∙ ap not (below_from n m id sets l (in_set m id ∙ and_from _ _ here.0 t)))))))
      (λ h.
      let both = both_true _ _ h in
      let least = is_some_of _ n both.1 in
      and_from _ _ (in_set n id ∙ and_from _ _ both.0 (least_has (number_in id) (places_of id documents) n least))
      (true_from_ne_false _ (λ f.
      let below = below_found n id sets (not_false (is_below n id sets) f) in
      none_lower (number_in id) (places_of id documents) n below.0 least below.1 (both_true (has ids id) _ (sym (in_set below.0 id) ∙ below.2)).1)))
    where
      not_false : (b : Bool) → not b ≡ false → b ≡ true
      not_false true e = refl
      not_false false e = absurd (cc)

pub least_at : (documents : List Document) (term : TermView) (number : Place → Option ℕ) (ids : List ℕ) (sets : List (List ℕ)) (rows : List (ℕ × SetView)) → IsIncreasing ids
    → ((n id : ℕ) → has (ids_at n sets) id ≡ has_number documents term number ids n id) → AreLeast sets rows → (n : ℕ) → set_at n rows ≡ numbered documents term number ids n
least_at documents term number ids sets rows up of least n =
    let asks : ℕ → Bool = λ id. option_eq eqb (least_number number (places_of id documents) term) (Some n) in
    increasing-same (set_at n rows) (filter asks ids) (least.sorted n) (increasing-filter asks ids up)
    (λ id. least.each n id ∙ by_least documents term number ids sets of n id ∙ sym (has-filter asks ids id))

pub are_numbered : (view : PostingsView) (term : TermView) (number : Place → Option ℕ) (ids : List ℕ) (sets : List (List ℕ)) (rows : List (ℕ × SetView)) → IsIncreasing ids
    → AreOfNumbers view term number ids sets → AreLeast sets rows → AreNumbered view term number ids rows
are_numbered view term number ids sets rows up of least = record {
  up = least.up;
  some = least.some;
  each = λ documents fresh. least_at documents term number ids sets rows up (of documents fresh) least;
}

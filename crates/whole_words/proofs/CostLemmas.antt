-- The documents of each whole cost.
use Rattle.std.proofs.Common.{◌≡◌, ℕ, ◌+◌, ◌<◌, ◌==◌, nat_lt, Bool, true, false, not, ◌&&◌, ◌||◌, cond, List, [], ◌∷◌, length, inl, inr, refl, sym, ap, ap₂, ◌∙◌, arith}
use Rattle.std.specs.List.{filter, list_any, list_all}
use Rattle.std.specs.Cmp.{both_ways}
use Rattle.std.proofs.lemmas.Bool.{eqb-true, eq-eqb, and_from}
use Rattle.std.proofs.lemmas.Bool.Decides.{nat_tests}
use Rattle.search_base.specs.declared.document.Place.{Place}
use Rattle.search_base.specs.Occurrence.{is_word_at, occurs_at, occurs}
use Rattle.search_base.specs.Whole.{begins_so, is_whole, whole_cost}
use Rattle.search_base.proofs.Members.{Among}
use Rattle.doc_sets.specs.Sets.{has, IsIncreasing, difference}
use Rattle.doc_sets.specs.SetView.{SetView}
use Rattle.doc_sets.proofs.SetLemmas.{has-filter, increasing-filter, increasing-same}
use Rattle.postings.specs.Dictionary.{PostingsView}
use Rattle.postings.specs.Documents.{Document, places_of}
use Rattle.postings.specs.Fresh.{StandsFor}
use Rattle.posting_sets.specs.Found.{AreOccurring, term_of}
use Rattle.posting_sets.specs.Beginnings.{AreBeginning}
use Rattle.posting_sets.specs.Gathered.{ids_at}
use Rattle.posting_sets.proofs.WalkLemmas.{both_true}
use Rattle.posting_sets.proofs.OccursLemmas.{list_any-found, list_any-from}
use Rattle.path_lengths.specs.Lengths.{has_length}
use Rattle.path_lengths.specs.Measured.{AreLengthsOf}
use Rattle.whole_words.specs.Costs.{at_cost, AreAtCost, is_as_long, is_in_some}
use Rattle.whole_words.proofs.SetLemmas.{ids_of, long_found, long_from, some_found, some_from}
use Rattle.whole_words.proofs.PathLemmas.{first_stands, whole_from, whole_long}

-- ---- costs by tests
abbrev some_whole : List Place → List (List ℕ) → Bool
some_whole places words = list_any (λ place. is_whole places words place.path.0) places

abbrev some_begins : List Place → List (List ℕ) → Bool
some_begins places words = list_any (λ place. begins_so places words place.path.0) places

zero_is : (places : List Place) (words : List (List ℕ)) → (whole_cost places words == 0) ≡ some_whole places words
unfolding whole_cost
zero_is places words = by (some_whole places words) (some_begins places words)
  where
    by : (a b : Bool) → (cond a 0 (cond b 1 2) == 0) ≡ a
    by true b = refl
    by false true = refl
    by false false = refl

one_is : (places : List Place) (words : List (List ℕ)) → (whole_cost places words == 1) ≡ (some_begins places words && not (some_whole places words))
unfolding whole_cost
one_is places words = by (some_whole places words) (some_begins places words)
  where
    by : (a b : Bool) → (cond a 0 (cond b 1 2) == 1) ≡ (b && not a)
    by true true = refl
    by true false = refl
    by false true = refl
    by false false = refl

-- ---- some words
pub some_words : (words : List (List ℕ)) → (length words == 0) ≡ false → 0 < length words
some_words [] h = absurd (cc)
some_words (word ∷ words) h = omega arith

pub no_words : (words : List (List ℕ)) → (length words == 0) ≡ true → words ≡ []
no_words [] h = refl
no_words (word ∷ words) h = absurd (let same = eqb-true (length (word ∷ words)) 0 h in omega arith)

module _ (documents : List Document) (words : List (List ℕ)) (some : 0 < length words) (universe : List ℕ) (sets : List SetView)
    (begun : (path : ℕ) → ids_at path (ids_of sets) ≡ filter (λ id. begins_so (places_of id documents) words path) universe) (id : ℕ) where
  abbrev places : List Place
  places = places_of id documents

  begun_at : (k : ℕ) → has (ids_at k (ids_of sets)) id ≡ (has universe id && begins_so places words k)
  begun_at k = ap (λ v. has v id) (begun k) ∙ has-filter (λ d. begins_so (places_of d documents) words k) universe id

  pub long_is : is_as_long documents (length words) 0 sets id ≡ (has universe id && some_whole places words)
  long_is = both_ways _ _ found from
    where
      found : is_as_long documents (length words) 0 sets id ≡ true → (has universe id && some_whole places words) ≡ true
      found h =
          let at = long_found documents (length words) id sets 0 h in
          let both = both_true _ _ (sym (begun_at at.0) ∙ at.2) in
          let path : 0 + at.0 ≡ at.0 = omega arith in
          and_from _ _ both.0 (whole_from places words at.0 both.1 (ap (λ p. has_length places p (length words)) (sym path) ∙ at.1))

      from : (has universe id && some_whole places words) ≡ true → is_as_long documents (length words) 0 sets id ≡ true
      from h =
          let both = both_true _ _ h in
          let at = list_any-found (λ place. is_whole places words place.path.0) places both.1 in
          let is = both_true _ _ at.2 in
          let path : 0 + at.0.path.0 ≡ at.0.path.0 = omega arith in
          long_from documents (length words) id sets 0 at.0.path.0
          (ap (λ p. has_length places p (length words)) path ∙ whole_long places words at.0.path.0 some is.0 is.1)
          (begun_at at.0.path.0 ∙ and_from _ _ both.0 is.0)

  pub begun_is : is_in_some sets id ≡ (has universe id && some_begins places words)
  begun_is = both_ways _ _ found from
    where
      found : is_in_some sets id ≡ true → (has universe id && some_begins places words) ≡ true
      found h =
          let at = some_found id sets h in
          let both = both_true _ _ (sym (begun_at at.0) ∙ at.1) in
          let place = first_stands places at.0 words some both.1 in
          and_from _ _ both.0 (list_any-from (λ place. begins_so places words place.path.0) places place.0 place.1 (ap (begins_so places words) place.2 ∙ both.1))

      from : (has universe id && some_begins places words) ≡ true → is_in_some sets id ≡ true
      from h =
          let both = both_true _ _ h in
          let at = list_any-found (λ place. begins_so places words place.path.0) places both.1 in
          some_from id sets at.0.path.0 (begun_at at.0.path.0 ∙ and_from _ _ both.0 at.2)

module _ (view lengths : PostingsView) (words : List (List ℕ)) (some : 0 < length words) (universe : List ℕ) (up : IsIncreasing universe) (sets : List SetView)
    (begun : AreBeginning view words universe (ids_of sets)) (whole : List ℕ) (rise : IsIncreasing whole)
    (long : (documents : List Document) → AreLengthsOf lengths documents → (id : ℕ) → has whole id ≡ is_as_long documents (length words) 0 sets id) where
  whole_at : (documents : List Document) → StandsFor view documents → AreLengthsOf lengths documents → (id : ℕ)
      → has whole id ≡ (has universe id && some_whole (places_of id documents) words)
  whole_at documents fresh measured id = long documents measured id ∙ long_is documents words some universe sets (begun documents fresh) id

  pub at_zero : AreAtCost view lengths words 0 universe whole
  at_zero documents fresh measured =
      increasing-same whole (at_cost documents words 0 universe) rise (increasing-filter (λ id. whole_cost (places_of id documents) words == 0) universe up) (λ id.
      whole_at documents fresh measured id
      ∙ sym (has-filter (λ id. whole_cost (places_of id documents) words == 0) universe id ∙ ap (λ b. has universe id && b) (zero_is (places_of id documents) words)))

  pub at_one : (all : List ℕ) → IsIncreasing all → ((id : ℕ) → has all id ≡ is_in_some sets id) → AreAtCost view lengths words 1 universe (difference all whole)
  at_one all grow each documents fresh measured =
      increasing-same (difference all whole) (at_cost documents words 1 universe) (increasing-filter (λ d. not (has whole d)) all grow)
      (increasing-filter (λ id. whole_cost (places_of id documents) words == 1) universe up) (λ id.
      has-filter (λ d. not (has whole d)) all id
      ∙ ap₂ (λ a b. a && not b) (each id ∙ begun_is documents words some universe sets (begun documents fresh) id) (whole_at documents fresh measured id)
      ∙ by (has universe id) (some_begins (places_of id documents) words) (some_whole (places_of id documents) words)
      ∙ sym (has-filter (λ id. whole_cost (places_of id documents) words == 1) universe id ∙ ap (λ b. has universe id && b) (one_is (places_of id documents) words)))
    where
      by : (u b w : Bool) → ((u && b) && not (u && w)) ≡ (u && (b && not w))
      by true b w = refl
      by false b w = refl

-- ---- no words
never_whole : (places : List Place) → some_whole places [] ≡ false
never_whole places = by (some_whole places []) refl
  where
    below : (b : Bool) (n : ℕ) → b ≡ true → (not b || nat_lt n 0) ≡ true → ⊥
    below true n e h = let low : n < 0 = grind (arith, nat_tests) in omega arith
    below false n e h = cc

    own : (place : Place) (xs : List Place) → Among xs place → list_all (λ (other : Place). not (other.path.0 == place.path.0) || nat_lt other.position 0) xs ≡ true → ⊥
    own place [] there h = absurd there
    own place (x ∷ xs) (inl same) h = below (x.path.0 == place.path.0) x.position (eq-eqb _ _ (ap (λ (p : Place). p.path.0) same)) (both_true _ _ h).0
    own place (x ∷ xs) (inr later) h = own place xs later (both_true _ _ h).1

    by : (b : Bool) → some_whole places [] ≡ b → b ≡ false
    by true h =
        let at = list_any-found (λ place. is_whole places [] place.path.0) places h in
        absurd (own at.0 places at.1 at.2)
    by false h = refl

pub none_whole : (documents : List Document) (universe : List ℕ) → [] ≡ at_cost documents [] 0 universe
none_whole documents [] = refl
none_whole documents (id ∷ ids) =
    none_whole documents ids
    ∙ sym (ap (λ b. cond b (id ∷ at_cost documents [] 0 ids) (at_cost documents [] 0 ids)) (zero_is (places_of id documents) [] ∙ never_whole (places_of id documents)))

any_is : (places : List Place) → occurs places (term_of true ([] ∷ [])) ≡ some_begins places []
any_is places = both_ways _ _
    (λ h. let at = list_any-found (occurs_at places (term_of true ([] ∷ []))) places h in list_any-from (λ place. true) places at.0 at.1 refl)
    (λ h.
    let at = list_any-found (λ place. true) places h in
    let place = at.0 in
    list_any-from (occurs_at places (term_of true ([] ∷ []))) places place at.1
    (and_from (list_any (is_word_at true place.path.0 place.position []) places) true
    (list_any-from (is_word_at true place.path.0 place.position []) places place at.1 (here place.path.0 place.position)) refl))
  where
    here : (p n : ℕ) → (((p == p) && (n == n)) && true) ≡ true
    here p n = and_from ((p == p) && (n == n)) true (and_from (p == p) (n == n) (eq-eqb p p refl) (eq-eqb n n refl)) refl

filter_same : (p q : ℕ → Bool) (xs : List ℕ) → ((x : ℕ) → p x ≡ q x) → filter p xs ≡ filter q xs
filter_same p q [] same = refl
filter_same p q (x ∷ xs) same = ap₂ (λ b rest. cond b (x ∷ rest) rest) (same x) (filter_same p q xs same)

pub all_begin : (view lengths : PostingsView) (universe ids : List ℕ) → AreOccurring view (term_of true ([] ∷ [])) universe ids → AreAtCost view lengths [] 1 universe ids
all_begin view lengths universe ids found documents fresh measured =
    found documents fresh
    ∙ filter_same _ _ universe (λ id.
    any_is (places_of id documents) ∙ and_true (some_begins (places_of id documents) [])
    ∙ sym (one_is (places_of id documents) [] ∙ ap (λ b. some_begins (places_of id documents) [] && not b) (never_whole (places_of id documents))))
  where
    and_true : (b : Bool) → b ≡ (b && true)
    and_true true = refl
    and_true false = refl

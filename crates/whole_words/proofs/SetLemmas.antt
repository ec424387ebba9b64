-- The sets of paths, one after the other.
use Rattle.std.proofs.Common.{◌≡◌, ℕ, zero, suc, ◌+◌, ◌<◌, ◌≤◌, Bool, true, false, ◌&&◌, ◌||◌, List, [], ◌∷◌, map, drop, take, length, get_or, refl, sym, ap, ap₂, ◌∙◌, arith, drop-cons, add-one}
use Rattle.std.specs.List.{filter}
use Rattle.std.proofs.lemmas.Bool.{or_left, or_right, and_from}
use Rattle.std.proofs.lemmas.List.{take_more}
use Rattle.std.proofs.lemmas.List.Folds.{list_any-append}
use Rattle.doc_sets.specs.Sets.{has, union}
use Rattle.doc_sets.specs.SetView.{SetView}
use Rattle.doc_sets.proofs.SetLemmas.{has-filter, has-union}
use Rattle.postings.specs.Documents.{Document, places_of}
use Rattle.posting_sets.specs.Gathered.{ids_at}
use Rattle.posting_sets.proofs.WalkLemmas.{both_true, either_true}
use Rattle.path_lengths.specs.Lengths.{has_length}
use Rattle.whole_words.specs.Costs.{is_as_long, is_in_some}

-- the ids of the sets
abbrev pub ids_of : List SetView → List (List ℕ)
ids_of sets = map (λ (set : SetView). set.ids) sets

-- ---- one set more
turned : (a b c d : Bool) → d ≡ (b && a) → ((d || c) || false) ≡ (c || ((a && b) || false))
turned a b c d e = ap (λ v. (v || c) || false) e ∙ by a b c
  where
    by : (a b c : Bool) → (((b && a) || c) || false) ≡ (c || ((a && b) || false))
    by true true true = refl
    by true true false = refl
    by true false true = refl
    by true false false = refl
    by false true true = refl
    by false true false = refl
    by false false true = refl
    by false false false = refl

step : (a b c d rest : Bool) → d ≡ (b && a) → ((d || c) || rest) ≡ (c || ((a && b) || rest))
step a b c d true e = or_end (d || c) ∙ sym (ap (λ v. c || v) (or_end (a && b)) ∙ or_end c)
  where
    or_end : (v : Bool) → (v || true) ≡ true
    or_end true = refl
    or_end false = refl
step a b c d false e = turned a b c d e

pub one_more : (documents : List Document) (long path id : ℕ) (sets : List SetView) (set : SetView) (docs old : List ℕ)
    → path < length sets → set ≡ get_or sets path set
    → docs ≡ filter (λ d. has_length (places_of d documents) path long) set.ids
    → (has (union docs old) id || is_as_long documents long (path + 1) (drop (path + 1) sets) id)
    ≡ (has old id || is_as_long documents long path (drop path sets) id)
one_more documents long path id sets set docs old inside is found =
    ap (λ b. b || is_as_long documents long (path + 1) (drop (path + 1) sets) id) (has-union docs old id)
    ∙ step (has_length (places_of id documents) path long) (has set.ids id) (has old id) (has docs id) (is_as_long documents long (path + 1) (drop (path + 1) sets) id)
    (ap (λ v. has v id) found ∙ has-filter (λ d. has_length (places_of d documents) path long) set.ids id)
    ∙ ap (λ v. has old id || is_as_long documents long path v id)
    (ap₂ (λ s n. s ∷ drop n sets) is (add-one path) ∙ sym (drop-cons sets path set inside))

pub none_left : (documents : List Document) (long path id : ℕ) (sets : List SetView) (b : Bool) → length sets ≤ path
    → (b || is_as_long documents long path (drop path sets) id) ≡ b
none_left documents long path id sets b past = ap (λ v. b || is_as_long documents long path v id) (drop_all path sets past) ∙ or_false b
  where
    drop_all : (n : ℕ) (xs : List SetView) → length xs ≤ n → drop n xs ≡ []
    drop_all zero [] le = refl
    drop_all (suc n) [] le = refl
    drop_all zero (x ∷ xs) le = absurd (omega arith)
    drop_all (suc n) (x ∷ xs) le = drop_all n xs (omega arith)

    or_false : (b : Bool) → (b || false) ≡ b
    or_false true = refl
    or_false false = refl

pub some_more : (id i : ℕ) (sets : List SetView) (set : SetView) (old : List ℕ) → i < length sets → set ≡ get_or sets i set
    → has old id ≡ is_in_some (take i sets) id → has (union set.ids old) id ≡ is_in_some (take (i + 1) sets) id
some_more id i sets set old inside is known =
    has-union set.ids old id
    ∙ ap₂ (λ (s : SetView) b. has s.ids id || b) is known
    ∙ around (has (get_or sets i set).ids id) (is_in_some (take i sets) id)
    ∙ sym (ap (λ v. is_in_some v id) (take_more sets i set inside) ∙ list_any-append (λ (s : SetView). has s.ids id) (take i sets) (get_or sets i set ∷ []))
  where
    around : (a b : Bool) → (a || b) ≡ (b || (a || false))
    around true true = refl
    around true false = refl
    around false true = refl
    around false false = refl

-- ---- a path's set
module _ (documents : List Document) (long id : ℕ) where
  pub long_found : (sets : List SetView) (path : ℕ) → is_as_long documents long path sets id ≡ true
      → (k : ℕ) × (has_length (places_of id documents) (path + k) long ≡ true) × (has (ids_at k (ids_of sets)) id ≡ true)
  long_found [] path h = absurd (cc)
  long_found (set ∷ sets) path h = either_true _ _ h
      (λ here. let both = both_true _ _ here in
      (0, ap (λ p. has_length (places_of id documents) p long) (let e : path + 0 ≡ path = omega arith in e) ∙ both.0, both.1))
      (λ there. let found = long_found sets (path + 1) there in
      (suc found.0, ap (λ p. has_length (places_of id documents) p long) (let e : path + suc found.0 ≡ path + 1 + found.0 = omega arith in e) ∙ found.1, found.2))

  pub long_from : (sets : List SetView) (path k : ℕ) → has_length (places_of id documents) (path + k) long ≡ true → has (ids_at k (ids_of sets)) id ≡ true
      → is_as_long documents long path sets id ≡ true
  long_from [] path zero is h = absurd (cc)
  long_from [] path (suc k) is h = absurd (cc)
  long_from (set ∷ sets) path zero is h =
      or_left _ _ (and_from _ _ (ap (λ p. has_length (places_of id documents) p long) (let e : path ≡ path + 0 = omega arith in e) ∙ is) h)
  long_from (set ∷ sets) path (suc k) is h =
      or_right (has_length (places_of id documents) path long && has set.ids id) _
      (long_from sets (path + 1) k (ap (λ p. has_length (places_of id documents) p long) (let e : path + 1 + k ≡ path + suc k = omega arith in e) ∙ is) h)

pub some_found : (id : ℕ) (sets : List SetView) → is_in_some sets id ≡ true → (k : ℕ) × (has (ids_at k (ids_of sets)) id ≡ true)
some_found id [] h = absurd (cc)
some_found id (set ∷ sets) h = either_true _ _ h (λ here. (0, here)) (λ there. let found = some_found id sets there in (suc found.0, found.1))

pub some_from : (id : ℕ) (sets : List SetView) (k : ℕ) → has (ids_at k (ids_of sets)) id ≡ true → is_in_some sets id ≡ true
some_from id [] zero h = absurd (cc)
some_from id [] (suc k) h = absurd (cc)
some_from id (set ∷ sets) zero h = or_left _ _ h
some_from id (set ∷ sets) (suc k) h = or_right (has set.ids id) _ (some_from id sets k h)

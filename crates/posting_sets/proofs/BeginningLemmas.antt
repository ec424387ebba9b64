-- The documents of which a path begins with some words.
use Rattle.std.proofs.Common.{◌≡◌, ℕ, zero, suc, ◌<◌, ◌≤◌, Bool, true, false, ◌&&◌, cond, List, [], ◌∷◌, map, length, eqb, None, Some, Result, Ok, Err, IfOk, refl, sym, ap, ap₂, ◌∙◌, arith}
use Rattle.std.specs.List.{filter, list_any, AllByRecursion}
use Rattle.std.specs.Option.{option_eq}
use Rattle.std.specs.Cmp.{both_ways}
use Rattle.std.proofs.lemmas.Bool.{eqb-true, eq-eqb, and_from}
use Rattle.search_base.specs.declared.document.Place.{Place}
use Rattle.search_base.specs.Occurrence.{is_word_at, words_stand_at}
use Rattle.search_base.specs.Whole.{begins_so}
use Rattle.sorted_pages.specs.Entries.{has, IsIncreasing}
use Rattle.sorted_pages.proofs.SetLemmas.{has-filter, increasing-filter, increasing-same}
use Rattle.doc_sets.specs.SetView.{SetView}
use Rattle.postings.specs.Dictionary.{PostingsView}
use Rattle.postings.specs.Documents.{places_of}
use Rattle.posting_sets.specs.declared.number.Number.TheVariants.{Beginning}
use Rattle.posting_sets.specs.Found.{term_of}
use Rattle.posting_sets.specs.Gathered.{place_number, ids_at, AreOfNumbers}
use Rattle.posting_sets.specs.Beginnings.{AreBeginning}
use Rattle.posting_sets.proofs.WalkLemmas.{both_true}
use Rattle.posting_sets.proofs.OccursLemmas.{list_any-found, list_any-from, first_of}

-- the number of a place is this path
number_is : (path position asked : ℕ) → option_eq eqb (cond (eqb position 0) (Some path) None) (Some asked) ≡ true → (path ≡ asked) × (position ≡ 0)
number_is path position asked h = by (eqb position 0) refl h
  where
    by : (b : Bool) → eqb position 0 ≡ b → option_eq eqb (cond b (Some path) None) (Some asked) ≡ true → (path ≡ asked) × (position ≡ 0)
    by true e h = (eqb-true _ _ h, eqb-true _ _ e)
    by false e h = absurd (cc)

number_from : (path position asked : ℕ) → path ≡ asked → position ≡ 0 → option_eq eqb (cond (eqb position 0) (Some path) None) (Some asked) ≡ true
number_from path position asked p z =
    ap (λ b. option_eq eqb (cond b (Some path) None) (Some asked)) (eq-eqb position 0 z) ∙ eq-eqb path asked p

module _ (places : List Place) (word : List ℕ) (words : List (List ℕ)) (path : ℕ) where
  abbrev here : Place → Bool
  here place = words_stand_at places false place.path.0 place.position (word ∷ words) && option_eq eqb (place_number Beginning place) (Some path)

  found : list_any here places ≡ true → begins_so places (word ∷ words) path ≡ true
  found h =
      let at = list_any-found here places h in
      let both = both_true _ _ at.2 in
      let is = number_is at.0.path.0 at.0.position path both.1 in
      ap₂ (λ p n. words_stand_at places false p n (word ∷ words)) (sym is.0) (sym is.1) ∙ both.0

  from : begins_so places (word ∷ words) path ≡ true → list_any here places ≡ true
  from h =
      let at = list_any-found (is_word_at false path 0 word) places (both_true _ _ h).0 in
      let there = both_true _ _ (both_true _ _ at.2).0 in
      let p : at.0.path.0 ≡ path = eqb-true _ _ there.0 in
      let z : at.0.position ≡ 0 = eqb-true _ _ there.1 in
      list_any-from here places at.0 at.1
      (and_from _ _ (ap₂ (λ p n. words_stand_at places false p n (word ∷ words)) p z ∙ h) (number_from at.0.path.0 at.0.position path p z))

  is_beginning : list_any here places ≡ begins_so places (word ∷ words) path
  is_beginning = both_ways _ _ found from

all_at : (sets : List (List ℕ)) → AllByRecursion IsIncreasing sets → (n : ℕ) → IsIncreasing (ids_at n sets)
all_at [] h zero = tt
all_at [] h (suc n) = tt
all_at (s ∷ ss) h zero = h.0
all_at (s ∷ ss) h (suc n) = all_at ss h.1 n

sets_increase : (sets : List SetView) → AllByRecursion (λ set. IsIncreasing set.ids) sets → AllByRecursion IsIncreasing (map (λ (set : SetView). set.ids) sets)
sets_increase [] h = tt
sets_increase (s ∷ ss) h = (h.0, sets_increase ss h.1)

pub are_beginning : (view : PostingsView) (words : List (List ℕ)) → 0 < length words → (ids : List ℕ) → IsIncreasing ids → (built : List (List ℕ)) (sets : List SetView)
    → AreOfNumbers view (term_of false words) (place_number Beginning) ids built → map (λ (set : SetView). set.ids) sets ≡ built
    → AllByRecursion (λ set. IsIncreasing set.ids) sets → AreBeginning view words ids (map (λ (set : SetView). set.ids) sets)
are_beginning view words some ids up built sets are same rise = λ documents fresh path.
    let first = first_of words some in
    let asks : ℕ → Bool = λ id. begins_so (places_of id documents) words path in
    increasing-same (ids_at path (map (λ (set : SetView). set.ids) sets)) (filter asks ids) (all_at _ (sets_increase sets rise) path) (increasing-filter asks ids up)
    (λ id.
    ap (λ v. has (ids_at path v) id) same ∙ are documents fresh path id
    ∙ ap (λ b. has ids id && b)
    (ap (λ ws. list_any (λ place. words_stand_at (places_of id documents) false place.path.0 place.position ws && option_eq eqb (place_number Beginning place) (Some path)) (places_of id documents)) first.2
    ∙ is_beginning (places_of id documents) first.0 first.1 path
    ∙ ap (λ ws. begins_so (places_of id documents) ws path) (sym first.2))
    ∙ sym (has-filter asks ids id))

pub ok_two : {X E : Type 0} (P Q R : X → Type 0) (r : Result X E) → IfOk r P → IfOk r Q → ((x : X) → P x → Q x → R x) → IfOk r R
ok_two P Q R (Ok x) p q f = f x p q
ok_two P Q R (Err e) p q f = tt

pub few_sets : (sets : List SetView) (built : List (List ℕ)) (n : ℕ) → map (λ (set : SetView). set.ids) sets ≡ built → length built ≤ n → length sets ≤ n
few_sets [] built n same le = omega arith
few_sets (s ∷ ss) [] n same le = absurd (cc)
few_sets (s ∷ ss) (b ∷ bs) n same le = let same_length : length (s ∷ ss) ≡ length (b ∷ bs) = sym (lengths (s ∷ ss)) ∙ ap length same in omega arith
  where
    lengths : (xs : List SetView) → length (map (λ (set : SetView). set.ids) xs) ≡ length xs
    lengths [] = refl
    lengths (x ∷ xs) = ap suc (lengths xs)

-- Paths that are some words, and paths that begin with them.
use Rattle.std.proofs.Common.{◌≡◌, ℕ, suc, ◌+◌, ◌<◌, ◌==◌, nat_le, nat_lt, Bool, true, false, not, ◌&&◌, ◌||◌, List, [], ◌∷◌, length, refl, ap, ◌∙◌, arith}
use Rattle.std.specs.List.{list_any}
use Rattle.std.proofs.lemmas.Bool.{eqb-true, eq-eqb, and_from}
use Rattle.std.proofs.lemmas.Bool.Decides.{nat_tests}
use Rattle.search_base.specs.declared.document.Place.{Place}
use Rattle.search_base.specs.Occurrence.{is_word_at, words_stand_at}
use Rattle.search_base.specs.Whole.{begins_so, ends_so, is_whole}
use Rattle.search_base.proofs.Members.{Among}
use Rattle.posting_sets.proofs.WalkLemmas.{both_true}
use Rattle.posting_sets.proofs.OccursLemmas.{list_any-found, list_any-from}
use Rattle.path_lengths.specs.Lengths.{is_last, has_length}
use Rattle.path_lengths.proofs.LastLemmas.{all-from, all-each}

-- a place at a position of a path
abbrev pub StandsAt : List Place → ℕ → ℕ → Type 0
StandsAt places path position = (place : Place) × Among places place × (place.path.0 ≡ path) × (place.position ≡ position)

word_stands : (places : List Place) (path position : ℕ) (word : List ℕ) → list_any (is_word_at false path position word) places ≡ true → StandsAt places path position
word_stands places path position word h =
    let at = list_any-found (is_word_at false path position word) places h in
    let there = both_true _ _ (both_true _ _ at.2).0 in
    (at.0, at.1, eqb-true _ _ there.0, eqb-true _ _ there.1)

pub first_stands : (places : List Place) (path : ℕ) (words : List (List ℕ)) → 0 < length words → begins_so places words path ≡ true → StandsAt places path 0
first_stands places path [] some h = absurd (omega arith)
first_stands places path (word ∷ words) some h = word_stands places path 0 word (both_true _ _ h).0

last_stands : (places : List Place) (path position : ℕ) (word : List ℕ) (words : List (List ℕ)) → words_stand_at places false path position (word ∷ words) ≡ true
    → StandsAt places path (position + length words)
last_stands places path position word [] h =
    let at = word_stands places path position word (both_true (list_any (is_word_at false path position word) places) true h).0 in
    (at.0, at.1, at.2, at.3 ∙ (let e : position ≡ position + 0 = omega arith in e))
last_stands places path position word (next ∷ words) h =
    let at = last_stands places path (position + 1) next words (both_true _ _ h).1 in
    (at.0, at.1, at.2, at.3 ∙ (let e : position + 1 + length words ≡ position + suc (length words) = omega arith in e))

-- a path that begins so and is as long is the words
pub whole_from : (places : List Place) (words : List (List ℕ)) (path : ℕ) → begins_so places words path ≡ true → has_length places path (length words) ≡ true
    → list_any (λ place. is_whole places words place.path.0) places ≡ true
whole_from places words path begins long =
    let at = list_any-found (λ place. is_last places place && ((place.path.0 == path) && (place.position + 1 == length words))) places long in
    let place = at.0 in
    let here = both_true _ _ at.2 in
    let there = both_true _ _ here.1 in
    let own : place.path.0 ≡ path = eqb-true _ _ there.0 in
    let end : place.position + 1 ≡ length words = eqb-true _ _ there.1 in
    list_any-from (λ place. is_whole places words place.path.0) places place at.1
    (and_from _ _ (ap (begins_so places words) own ∙ begins)
    (all-from _ places (λ other among.
    behind (other.path.0 == place.path.0) other.position place.position (length words) end (all-each _ places other here.0 among))))
  where
    behind : (b : Bool) (m n long : ℕ) → n + 1 ≡ long → (not b || nat_le m n) ≡ true → (not b || nat_lt m long) ≡ true
    behind true m n long end h = grind (arith, nat_tests)
    behind false m n long end h = refl

pub whole_long : (places : List Place) (words : List (List ℕ)) (path : ℕ) → 0 < length words → begins_so places words path ≡ true → ends_so places words path ≡ true
    → has_length places path (length words) ≡ true
whole_long places [] path some begins ends = absurd (omega arith)
whole_long places (word ∷ words) path some begins ends =
    let at = last_stands places path 0 word words begins in
    let place = at.0 in
    let own : place.path.0 ≡ path = at.2 in
    let end : place.position ≡ length words = at.3 ∙ (let e : 0 + length words ≡ length words = omega arith in e) in
    list_any-from (λ place. is_last places place && ((place.path.0 == path) && (place.position + 1 == length (word ∷ words)))) places place at.1
    (and_from _ _
    (all-from _ places (λ other among.
    before (other.path.0 == place.path.0) (other.path.0 == path) other.position place.position (length (word ∷ words)) (ap (λ p. other.path.0 == p) own) (omega arith)
    (all-each _ places other ends among)))
    (and_from _ _ (eq-eqb _ _ own) (eq-eqb _ _ (omega arith))))
  where
    before : (b d : Bool) (m n long : ℕ) → b ≡ d → n + 1 ≡ long → (not d || nat_lt m long) ≡ true → (not b || nat_le m n) ≡ true
    before true true m n long same end h = grind (arith, nat_tests)
    before true false m n long same end h = absurd (cc)
    before false d m n long same end h = refl

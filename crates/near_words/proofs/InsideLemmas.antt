-- What is inside a universe, document by document.
use Rattle.std.proofs.Common.{◌≡◌, ℕ, ◌+◌, ◌/◌, ◌^◌, ◌<◌, ◌≤◌, ◌==◌, Bool, true, false, ◌||◌, cond, List, [], ◌∷◌, ◌++◌, length, None, Some, refl, sym, ap, subst, ◌∙◌, arith, append_assoc}
use Rattle.std.specs.Prelude.{nat_le, nat_lt}
use Rattle.std.specs.List.{AllByRecursion, slice_get}
use Rattle.std.proofs.lemmas.Bool.{cond-true, cond-false, ne_eqb}
use Rattle.std.proofs.lemmas.Bool.Decides.{nat_tests}
use Rattle.doc_sets.specs.Sets.{has, above, IsIncreasing}
use Rattle.doc_sets.proofs.SetLemmas.{has-above}
use Rattle.sorted_pages.specs.Entries.{IsIncreasing as IsUp}
use Rattle.near_words.specs.ByCost.{run_of}
use Rattle.near_words.specs.FromDocument.{from_document, begins_before}
use Rattle.near_words.specs.Inside.{inside}
use Rattle.near_words.proofs.ReadLemmas.{all_at_least, none_after, from_here, from_passed}

-- the first document's entries, and then the others
read_all : (universe : List ℕ) (id : ℕ) (left : List ℕ) → has universe id ≡ true → IsUp left → AllByRecursion (λ x. id ≤ x / 2 ^ 32) left
    → inside universe left ≡ run_of id left ++ inside universe (from_document (id + 1) left)
read_all universe id [] member up low = refl
read_all universe id (x ∷ xs) member up low = by (x / 2 ^ 32 == id) refl (read_all universe id xs member up.1 low.1)
  where
    by : (b : Bool) → (x / 2 ^ 32 == id) ≡ b → inside universe xs ≡ run_of id xs ++ inside universe (from_document (id + 1) xs)
        → inside universe (x ∷ xs) ≡ cond b (x ∷ run_of id xs) (run_of id xs) ++ inside universe (from_document (id + 1) (x ∷ xs))
    by true is rest =
        let same : x / 2 ^ 32 ≡ id = grind (arith, nat_tests) in
        cond-true (has universe (x / 2 ^ 32)) _ _ (ap (has universe) same ∙ member)
        ∙ ap (λ v. x ∷ v) (rest ∙ ap (λ v. run_of id xs ++ inside universe v) (sym (from_passed (id + 1) x xs (omega arith))))
    by false is rest =
        let least = low.0 in
        let past : id < x / 2 ^ 32 = grind (arith, nat_tests) in
        ap (inside universe) (sym (from_here (id + 1) x xs (omega arith) up))
        ∙ ap (λ v. v ++ inside universe (from_document (id + 1) (x ∷ xs))) (sym (none_after id x xs past up.0))

pub inside_read : (universe : List ℕ) (id : ℕ) (left done whole : List ℕ) → has universe id ≡ true → IsUp left → from_document id left ≡ left
    → done ++ inside universe left ≡ whole → (done ++ run_of id left) ++ inside universe (from_document (id + 1) left) ≡ whole
inside_read universe id left done whole member up here told =
    append_assoc done (run_of id left) (inside universe (from_document (id + 1) left))
    ∙ ap (λ (v : List ℕ). done ++ v) (sym (read_all universe id left member up (subst (AllByRecursion (λ x. id ≤ x / 2 ^ 32)) here (all_at_least id left))))
    ∙ told

-- documents that are not in the universe
pub inside_skip : (universe : List ℕ) (id next : ℕ) (left : List ℕ) → ((q : ℕ) → id ≤ q → q < next → has universe q ≡ false) → AllByRecursion (λ x. id ≤ x / 2 ^ 32) left
    → inside universe (from_document next left) ≡ inside universe left
inside_skip universe id next [] none low = refl
inside_skip universe id next (x ∷ xs) none low = by (nat_le next (x / 2 ^ 32)) refl (inside_skip universe id next xs none low.1)
  where
    by : (b : Bool) → nat_le next (x / 2 ^ 32) ≡ b → inside universe (from_document next xs) ≡ inside universe xs
        → inside universe (cond b (x ∷ from_document next xs) (from_document next xs)) ≡ cond (has universe (x / 2 ^ 32)) (x ∷ inside universe xs) (inside universe xs)
    by true is rest = ap (λ v. cond (has universe (x / 2 ^ 32)) (x ∷ v) v) rest
    by false is rest = rest ∙ sym (cond-false _ _ _ (none (x / 2 ^ 32) low.0 (let less : x / 2 ^ 32 < next = grind (arith, nat_tests) in less)))

pub inside_none : (universe : List ℕ) (id : ℕ) (left : List ℕ) → ((q : ℕ) → id ≤ q → has universe q ≡ false) → AllByRecursion (λ x. id ≤ x / 2 ^ 32) left → inside universe left ≡ []
inside_none universe id [] none low = refl
inside_none universe id (x ∷ xs) none low = cond-false _ _ _ (none (x / 2 ^ 32) low.0) ∙ inside_none universe id xs none low.1

no_member : (x q : ℕ) (xs : List ℕ) → (x ≡ q → ⊥) → has xs q ≡ false → has (x ∷ xs) q ≡ false
no_member x q xs other none = ap (λ b. b || has xs q) (ne_eqb x q other) ∙ none

-- between a document and the next of the universe there is none of it
pub none_between : (universe : List ℕ) (id next q : ℕ) → IsIncreasing universe → has universe id ≡ false → Some next ≡ slice_get (above id universe) 0 → id ≤ q → q < next → has universe q ≡ false
none_between [] id next q up not_it is low high = refl
none_between (x ∷ xs) id next q up not_it is low high = by (nat_lt id x) refl is (x == id) refl not_it (λ rest later. none_between xs id next q up.1 rest later low high)
  where
    by : (b : Bool) → nat_lt id x ≡ b → Some next ≡ slice_get (cond b (x ∷ above id xs) (above id xs)) 0 → (c : Bool) → (x == id) ≡ c → (c || has xs id) ≡ false
        → (has xs id ≡ false → Some next ≡ slice_get (above id xs) 0 → has xs q ≡ false) → has (x ∷ xs) q ≡ false
    by true more is c same none later =
        let one : next ≡ x = cc in
        no_member x q xs (λ e. omega arith) (has-above x q xs up.0 (omega arith))
    by false more is true same none later = absurd (cc)
    by false more is false same none later =
        let less : x ≤ id = grind (arith, nat_tests) in
        let other : x ≡ id → ⊥ = grind (arith, nat_tests) in
        no_member x q xs (λ e. other (omega arith)) (later none is)

pub none_behind : (universe : List ℕ) (id q : ℕ) → has universe id ≡ false → None ≡ slice_get (above id universe) 0 → id ≤ q → has universe q ≡ false
none_behind [] id q not_it is low = refl
none_behind (x ∷ xs) id q not_it is low = by (nat_lt id x) refl is (x == id) refl not_it (λ rest later. none_behind xs id q rest later low)
  where
    by : (b : Bool) → nat_lt id x ≡ b → None ≡ slice_get (cond b (x ∷ above id xs) (above id xs)) 0 → (c : Bool) → (x == id) ≡ c → (c || has xs id) ≡ false
        → (has xs id ≡ false → None ≡ slice_get (above id xs) 0 → has xs q ≡ false) → has (x ∷ xs) q ≡ false
    by true more is c same none later = absurd (cc)
    by false more is true same none later = absurd (cc)
    by false more is false same none later =
        let less : x ≤ id = grind (arith, nat_tests) in
        let other : x ≡ id → ⊥ = grind (arith, nat_tests) in
        no_member x q xs (λ e. other (omega arith)) (later none is)

-- what is left becomes shorter
no_longer : (id : ℕ) (xs : List ℕ) → length (from_document id xs) ≤ length xs
no_longer id [] = omega arith
no_longer id (y ∷ ys) = by (nat_le id (y / 2 ^ 32)) (no_longer id ys)
  where
    by : (b : Bool) → length (from_document id ys) ≤ length ys → length (cond b (y ∷ from_document id ys) (from_document id ys)) ≤ length (y ∷ ys)
    by true rest = omega arith
    by false rest = omega arith

pub shorter : (id : ℕ) (left : List ℕ) → begins_before id left ≡ true → length (from_document id left) < length left
shorter id [] before = absurd (cc)
shorter id (x ∷ xs) before =
    let less : x / 2 ^ 32 < id = grind (arith, nat_tests) in
    let few = no_longer id xs in
    let is : length (from_document id (x ∷ xs)) ≡ length (from_document id xs) = ap length (from_passed id x xs less) in
    omega arith

-- a document that is passed may as well be passed by a later one
pub begins_sooner : (id later : ℕ) (left : List ℕ) → id ≤ later → begins_before id left ≡ true → begins_before later left ≡ true
begins_sooner id later [] le before = absurd (cc)
begins_sooner id later (x ∷ xs) le before = grind (arith, nat_tests)

pub next_more : (universe : List ℕ) (id next : ℕ) → Some next ≡ slice_get (above id universe) 0 → id < next
next_more [] id next is = absurd (cc)
next_more (x ∷ xs) id next is = by (nat_lt id x) refl is (next_more xs id next)
  where
    by : (b : Bool) → nat_lt id x ≡ b → Some next ≡ slice_get (cond b (x ∷ above id xs) (above id xs)) 0 → (Some next ≡ slice_get (above id xs) 0 → id < next) → id < next
    by true more is later =
        let one : next ≡ x = cc in
        let less : id < x = grind (arith, nat_tests) in
        omega arith
    by false more is later = later is

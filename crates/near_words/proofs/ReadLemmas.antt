-- What is passed of a list, and what is left.
use Rattle.std.proofs.Common.{◌≡◌, ℕ, ◌+◌, ◌*◌, ◌/◌, ◌^◌, ◌<◌, ◌≤◌, ◌==◌, Bool, true, false, cond, List, [], ◌∷◌, ◌++◌, filter, drop, None, Some, refl, sym, ap, subst, ◌∙◌, arith, append_assoc, append-nil}
use Rattle.std.specs.Prelude.{nat_le}
use Rattle.std.specs.List.{AllByRecursion, slice_get}
use Rattle.std.proofs.lemmas.Bool.{cond-true, cond-false, ne_eqb, eq-eqb, lt-ltb}
use Rattle.std.proofs.lemmas.Bool.Decides.{nat_tests}
use Rattle.std.proofs.lemmas.List.Elements.{filter_agree}
use Rattle.sorted_pages.specs.Entries.{AreAbove, IsIncreasing}
use Rattle.near_words.specs.ByCost.{run_of}
use Rattle.near_words.specs.FromDocument.{from_document, begins_before}

-- a document's first entry is no less than its number says
same_test : (id x : ℕ) → nat_le (id * 2 ^ 32) x ≡ nat_le id (x / 2 ^ 32)
same_test id x = grind (arith, nat_tests)

pub from_sought : (id : ℕ) (xs : List ℕ) → filter (λ x. nat_le (id * 2 ^ 32) x) xs ≡ from_document id xs
from_sought id xs = filter_agree _ _ (same_test id) xs

-- from an entry of a document on, all are of it or of later ones
all_from : (id x : ℕ) (xs : List ℕ) → id ≤ x / 2 ^ 32 → AreAbove x xs → from_document id xs ≡ xs
all_from id x [] low above = refl
all_from id x (y ∷ ys) low above =
    let next : nat_le id (y / 2 ^ 32) ≡ true = let more = above.0 in let le : id ≤ y / 2 ^ 32 = omega arith in grind (arith, nat_tests) in
    cond-true _ _ _ next ∙ ap (λ v. y ∷ v) (all_from id x ys low above.1)

pub from_here : (id x : ℕ) (xs : List ℕ) → id ≤ x / 2 ^ 32 → IsIncreasing (x ∷ xs) → from_document id (x ∷ xs) ≡ x ∷ xs
from_here id x xs low up =
    let here : nat_le id (x / 2 ^ 32) ≡ true = grind (arith, nat_tests) in
    cond-true _ _ _ here ∙ ap (λ v. x ∷ v) (all_from id x xs low up.0)

pub from_passed : (id x : ℕ) (xs : List ℕ) → x / 2 ^ 32 < id → from_document id (x ∷ xs) ≡ from_document id xs
from_passed id x xs low = let past : nat_le id (x / 2 ^ 32) ≡ false = grind (arith, nat_tests) in cond-false _ _ _ past

pub none_left : (xs : List ℕ) → None ≡ slice_get xs 0 → xs ≡ []
none_left [] h = refl
none_left (x ∷ xs) h = absurd (cc)

pub first_of_left : (xs : List ℕ) (x : ℕ) → Some x ≡ slice_get xs 0 → xs ≡ x ∷ drop 1 xs
first_of_left [] x h = absurd (cc)
first_of_left (y ∷ ys) x h = ap (λ z. z ∷ ys) (sym (some_same x y h))
  where
    some_same : (x y : ℕ) → Some x ≡ Some y → x ≡ y
    some_same x y h = cc

-- the document of the first entry
pub from_first : (x : ℕ) (xs : List ℕ) → Some x ≡ slice_get xs 0 → IsIncreasing xs → from_document (x / 2 ^ 32) xs ≡ xs
from_first x xs h up =
    let is = first_of_left xs x h in
    subst (λ (v : List ℕ). from_document (x / 2 ^ 32) v ≡ v) (sym is) (from_here (x / 2 ^ 32) x (drop 1 xs) (omega arith) (subst IsIncreasing is up))

pub first_passed : (x : ℕ) (xs : List ℕ) → Some x ≡ slice_get xs 0 → begins_before (x / 2 ^ 32 + 1) xs ≡ true
first_passed x xs h = subst (λ (v : List ℕ). begins_before (x / 2 ^ 32 + 1) v ≡ true) (sym (first_of_left xs x h)) (lt-ltb (x / 2 ^ 32) (x / 2 ^ 32 + 1) (omega arith))

-- ---- a document that is read
pub record IsReading (id : ℕ) (had old run left : List ℕ) : Type 0 where
  pub told : run ++ run_of id left ≡ had ++ run_of id old
  pub rest : from_document (id + 1) left ≡ from_document (id + 1) old
  pub above : AllByRecursion (λ x. id ≤ x / 2 ^ 32) left

-- what is passed is of earlier documents
pub run_passed : (id later : ℕ) (xs : List ℕ) → id ≤ later → run_of later (from_document id xs) ≡ run_of later xs
run_passed id later [] le = refl
run_passed id later (x ∷ xs) le = by (nat_le id (x / 2 ^ 32)) refl (run_passed id later xs le)
  where
    by : (b : Bool) → nat_le id (x / 2 ^ 32) ≡ b → run_of later (from_document id xs) ≡ run_of later xs
        → run_of later (cond b (x ∷ from_document id xs) (from_document id xs)) ≡ cond (x / 2 ^ 32 == later) (x ∷ run_of later xs) (run_of later xs)
    by true is rest = ap (λ v. cond (x / 2 ^ 32 == later) (x ∷ v) v) rest
    by false is rest = rest ∙ sym (cond-false (x / 2 ^ 32 == later) (x ∷ run_of later xs) (run_of later xs) (let less : x / 2 ^ 32 < id = grind (arith, nat_tests) in ne_eqb _ _ (λ e. omega arith)))

-- from a later document on nothing is lost by what an earlier one passes
pub from_later : (id later : ℕ) (xs : List ℕ) → id ≤ later → from_document later (from_document id xs) ≡ from_document later xs
from_later id later [] le = refl
from_later id later (x ∷ xs) le = by (nat_le id (x / 2 ^ 32)) refl (from_later id later xs le)
  where
    by : (b : Bool) → nat_le id (x / 2 ^ 32) ≡ b → from_document later (from_document id xs) ≡ from_document later xs
        → from_document later (cond b (x ∷ from_document id xs) (from_document id xs)) ≡ cond (nat_le later (x / 2 ^ 32)) (x ∷ from_document later xs) (from_document later xs)
    by true is rest = ap (λ v. cond (nat_le later (x / 2 ^ 32)) (x ∷ v) v) rest
    by false is rest = rest ∙ sym (cond-false _ _ _ (let past : nat_le later (x / 2 ^ 32) ≡ false = grind (arith, nat_tests) in past))

pub all_at_least : (id : ℕ) (xs : List ℕ) → AllByRecursion (λ x. id ≤ x / 2 ^ 32) (from_document id xs)
all_at_least id [] = tt
all_at_least id (x ∷ xs) = by (nat_le id (x / 2 ^ 32)) refl (all_at_least id xs)
  where
    by : (b : Bool) → nat_le id (x / 2 ^ 32) ≡ b → AllByRecursion (λ x. id ≤ x / 2 ^ 32) (from_document id xs) → AllByRecursion (λ x. id ≤ x / 2 ^ 32) (cond b (x ∷ from_document id xs) (from_document id xs))
    by true is rest = ((let h : id ≤ x / 2 ^ 32 = grind (arith, nat_tests) in h), rest)
    by false is rest = rest

pub reading_start : (id : ℕ) (had old : List ℕ) → IsReading id had old had (from_document id old)
reading_start id had old = record {
  told = ap (λ v. had ++ v) (run_passed id id old (omega arith));
  rest = from_later id (id + 1) old (omega arith);
  above = all_at_least id old;
}

pub reading_more : (id x : ℕ) (had old run rest : List ℕ) → IsReading id had old run (x ∷ rest) → x / 2 ^ 32 ≡ id → IsReading id had old (run ++ x ∷ []) rest
reading_more id x had old run rest reading is = record {
  told = append_assoc run (x ∷ []) (run_of id rest)
      ∙ ap (λ (v : List ℕ). run ++ v) (sym (cond-true (x / 2 ^ 32 == id) (x ∷ run_of id rest) (run_of id rest) (eq-eqb _ _ is))) ∙ reading.told;
  rest = sym (from_passed (id + 1) x rest (omega arith)) ∙ reading.rest;
  above = reading.above.1;
}

pub none_after : (id x : ℕ) (rest : List ℕ) → id < x / 2 ^ 32 → AreAbove x rest → run_of id rest ≡ []
none_after id x [] past above = refl
none_after id x (y ∷ ys) past above =
    let over = above.0 in
    cond-false (y / 2 ^ 32 == id) _ _ (ne_eqb _ _ (λ e. omega arith)) ∙ none_after id x ys past above.1

pub reading_over : (id x : ℕ) (had old run rest : List ℕ) → IsReading id had old run (x ∷ rest) → IsIncreasing (x ∷ rest) → (x / 2 ^ 32 ≡ id → ⊥)
    → (run ≡ had ++ run_of id old) × (x ∷ rest ≡ from_document (id + 1) old)
reading_over id x had old run rest reading up other =
    let low = reading.above.0 in
    let past : id < x / 2 ^ 32 = omega (arith, other) in
    let none : run_of id (x ∷ rest) ≡ [] = cond-false (x / 2 ^ 32 == id) _ _ (ne_eqb _ _ other) ∙ none_after id x rest past up.0 in (
      sym (append-nil run) ∙ ap (λ (v : List ℕ). run ++ v) (sym none) ∙ reading.told,
      sym (from_here (id + 1) x rest (omega arith) up) ∙ reading.rest,
    )

pub reading_end : (id : ℕ) (had old run : List ℕ) → IsReading id had old run [] → (run ≡ had ++ run_of id old) × ([] ≡ from_document (id + 1) old)
reading_end id had old run reading = (sym (append-nil run) ∙ reading.told, reading.rest)

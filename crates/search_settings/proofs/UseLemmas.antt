-- How settings use paths.
use Rattle.std.proofs.Common.{◌≡◌, ℕ, suc, ◌+◌, ◌<◌, ◌≤◌, Bool, true, false, List, [], ◌∷◌, ◌++◌, length, Option, None, Some, refl, sym, ap, ap₂, subst, ◌∙◌, arith}
use Rattle.std.specs.Prelude.{◌&&◌, IfSome}
use Rattle.std.specs.Bool.{beq}
use Rattle.std.specs.List.{AllByRecursion}
use Rattle.std.specs.Cmp.Lexicographic.{pointwise}
use Rattle.std.proofs.lemmas.Bool.{cond_both, true≢false, eq-eqb, eqb-true}
use Rattle.doc_rows.specs.declared.path_use.PathUse.{PathUse}
use Rattle.index_settings.specs.View.{SettingsView}
use Rattle.index_settings.specs.Paths.{first_place, covers}
use Rattle.search_settings.specs.Uses.{same_rank, same_use, use_of, uses_from}

-- ---- the test of uses tells whether they are the same

both : (a b : Bool) → a && b ≡ true → (a ≡ true) × (b ≡ true)
both true b h = (refl, h)
both false b h = absurd (true≢false (sym h))

rank-itself : (rank : Option ℕ) → same_rank rank rank ≡ true
rank-itself None = refl
rank-itself (Some n) = eq-eqb n n refl

rank-is : (a b : Option ℕ) → same_rank a b ≡ true → a ≡ b
rank-is None None h = refl
rank-is None (Some n) h = absurd (true≢false (sym h))
rank-is (Some m) None h = absurd (true≢false (sym h))
rank-is (Some m) (Some n) h = ap Some (eqb-true m n h)

bool-itself : (b : Bool) → beq b b ≡ true
bool-itself true = refl
bool-itself false = refl

bool-is : (a b : Bool) → beq a b ≡ true → a ≡ b
bool-is true true h = refl
bool-is false false h = refl
bool-is true false h = absurd (true≢false (sym h))
bool-is false true h = absurd (true≢false (sym h))

uses-themselves : (uses : List PathUse) → pointwise same_use uses uses ≡ true
uses-themselves [] = refl
uses-themselves (x ∷ uses) = ap₂ (λ a b. a && b && pointwise same_use uses uses) (rank-itself x.rank) (bool-itself x.faceted) ∙ uses-themselves uses

pub alike-uses : (xs ys : List PathUse) → xs ≡ ys → pointwise same_use xs ys ≡ true
alike-uses xs ys e = subst (λ v. pointwise same_use xs v ≡ true) e (uses-themselves xs)

pub uses-are : (xs ys : List PathUse) → pointwise same_use xs ys ≡ true → xs ≡ ys
uses-are [] [] h = refl
uses-are [] (y ∷ ys) h = absurd (true≢false (sym h))
uses-are (x ∷ xs) [] h = absurd (true≢false (sym h))
uses-are (x ∷ xs) (y ∷ ys) h =
    let first = both (same_use x y) (pointwise same_use xs ys) h in
    let parts = both (same_rank x.rank y.rank) (beq x.faceted y.faceted) first.0 in
    ap₂ (λ rank faceted. record { rank = rank; faceted = faceted } ∷ xs) (rank-is x.rank y.rank parts.0) (bool-is x.faceted y.faceted parts.1) ∙ ap (λ v. y ∷ v) (uses-are xs ys first.1)

-- each path has a use
pub uses-length : (st : SettingsView) (number : ℕ) (paths : List (List ℕ)) → length (uses_from st number paths) ≡ length paths
uses-length st number [] = refl
uses-length st number (path ∷ paths) = ap suc (uses-length st (number + 1) paths)

-- the uses of more paths stand behind
uses-append : (st : SettingsView) (number : ℕ) (paths more : List (List ℕ)) → uses_from st number (paths ++ more) ≡ uses_from st number paths ++ uses_from st (number + length paths) more
uses-append st number [] more = ap (λ n. uses_from st n more) plus-zero
  where
    plus-zero : number ≡ number + 0
    plus-zero = omega arith
uses-append st number (path ∷ paths) more = ap (λ v. use_of st path number ∷ v) (uses-append st (number + 1) paths more ∙ ap (λ n. uses_from st (number + 1) paths ++ uses_from st n more) next)
  where
    next : number + 1 + length paths ≡ number + suc (length paths)
    next = omega arith

pub uses-known : (st : SettingsView) (paths more : List (List ℕ)) (known : List PathUse) → known ≡ uses_from st 0 paths → known ++ uses_from st (length known) more ≡ uses_from st 0 (paths ++ more)
uses-known st paths more known is =
    ap (λ v. v ++ uses_from st (length v) more) is ∙ ap (λ n. uses_from st 0 paths ++ uses_from st n more) many ∙ sym (uses-append st 0 paths more)
  where
    many : length (uses_from st 0 paths) ≡ 0 + length paths
    many = uses-length st 0 paths ∙ plus
      where
        plus : length paths ≡ 0 + length paths
        plus = omega arith

-- ---- ranks

first-below : (n : ℕ) (path : List ℕ) (entries : List (List ℕ)) → IfSome (first_place n path entries) (λ rank. rank < n + length entries)
first-below n path [] = tt
first-below n path (entry ∷ entries) = cond_both (covers path entry) (Some n) (first_place (n + 1) path entries) (λ o. IfSome o (λ rank. rank < n + suc (length entries)))
    (λ _. omega arith) (λ _. weaker (first_place (n + 1) path entries) (first-below (n + 1) path entries))
  where
    weaker : (o : Option ℕ) → IfSome o (λ rank. rank < n + 1 + length entries) → IfSome o (λ rank. rank < n + suc (length entries))
    weaker None h = tt
    weaker (Some rank) h = omega (arith, h)

some-below : (a b : ℕ) (o : Option ℕ) → a ≤ b → IfSome o (λ rank. rank < a) → IfSome o (λ rank. rank < b)
some-below a b None le h = tt
some-below a b (Some rank) le h = omega (arith, h)

pub ranked-below : (st : SettingsView) (number : ℕ) (paths : List (List ℕ)) → number + length paths ≤ 1000 → length st.searchable_attributes ≤ 65535 → AllByRecursion (λ path_use. IfSome path_use.rank (λ rank. rank < 65535)) (uses_from st number paths)
ranked-below st number [] few many = tt
ranked-below st number (path ∷ paths) few many = (
  cond_both _ (Some number) (first_place 0 path st.searchable_attributes) (λ o. IfSome o (λ rank. rank < 65535)) (λ _. omega (arith, few))
      (λ _. some-below (0 + length st.searchable_attributes) 65535 (first_place 0 path st.searchable_attributes) (omega (arith, many)) (first-below 0 path st.searchable_attributes)),
  ranked-below st (number + 1) paths (omega (arith, few)) many,
)

-- Things that are asked one after another, of which some need not be asked.
use Rattle.std.proofs.Common.{◌≡◌, ℕ, zero, suc, ◌+◌, ◌<◌, ◌≤◌, Bool, true, false, not, ◌&&◌, ◌||◌, List, [], ◌∷◌, ◌++◌, drop, length, get_or, refl, sym, ap, ap₂, ◌∙◌, arith, drop-cons}
use Rattle.std.specs.List.{filter, list_any, list_all}
use Rattle.std.specs.List.Sorted.{IsPermutation}
use Rattle.std.proofs.lemmas.List.Sorted.{list_any-IsPermutation}
use Rattle.search_base.specs.RowsView.{RowsView}
use Rattle.doc_sets.specs.Sets.{has, union}
use Rattle.doc_sets.specs.Membership.{AreByMembers}
use Rattle.facet_index.specs.LeavesView.{LeavesView}
use Rattle.facet_index.proofs.TestLemmas.{filter_same, has_filter}
use Rattle.filter_sets.specs.declared.source.Facets.{Facets}
use Rattle.filter_sets.specs.Selects.{AreFacetsOf, AreRowsOf, Selects}
use Rattle.filter_sets.proofs.JoinLemmas.{filter_twice, filter_all, one_more}

-- ---- lists

pub rest_from : {X : Type 0} (xs : List X) (i : ℕ) (x : X) → i < length xs → x ≡ get_or xs i x → x ∷ drop (i + 1) xs ≡ drop i xs
rest_from xs i x inside is =
    let e : suc i ≡ i + 1 = omega arith in
    ap₂ (λ y n. y ∷ drop n xs) is (sym e) ∙ sym (drop-cons xs i x inside)

pub no_rest : {X : Type 0} (xs : List X) (i : ℕ) → length xs ≤ i → drop i xs ≡ []
no_rest [] zero h = refl
no_rest [] (suc i) h = refl
no_rest (x ∷ xs) zero h = absurd (omega arith)
no_rest (x ∷ xs) (suc i) h = no_rest xs i (omega arith)

and_false : (b : Bool) → (b && false) ≡ false
and_false true = refl
and_false false = refl

or_true : (b : Bool) → (b || true) ≡ true
or_true true = refl
or_true false = refl

all_by_any : {X : Type 0} (p : X → Bool) (xs : List X) → list_all p xs ≡ not (list_any (λ x. not (p x)) xs)
all_by_any p [] = refl
all_by_any p (x ∷ xs) = by (p x) (all_by_any p xs)
  where
    by : (b : Bool) → list_all p xs ≡ not (list_any (λ y. not (p y)) xs)
        → (b && list_all p xs) ≡ not (not b || list_any (λ y. not (p y)) xs)
    by true later = later
    by false later = refl

pub all_moved : {X : Type 0} (p : X → Bool) (xs ys : List X) → IsPermutation xs ys → list_all p ys ≡ list_all p xs
all_moved p xs ys moved = all_by_any p ys ∙ ap not (sym (list_any-IsPermutation (λ x. not (p x)) xs ys moved)) ∙ sym (all_by_any p xs)

pub any_moved : {X : Type 0} (p : X → Bool) (xs ys : List X) → IsPermutation xs ys → list_any p ys ≡ list_any p xs
any_moved p xs ys moved = sym (list_any-IsPermutation p xs ys moved)

pub all_pushed : {X : Type 0} (p : X → Bool) (xs : List X) (x : X) → list_all p (xs ++ x ∷ []) ≡ (list_all p xs && p x)
all_pushed p [] x = by (p x)
  where
    by : (b : Bool) → (b && true) ≡ (true && b)
    by true = refl
    by false = refl
all_pushed p (y ∷ xs) x = by (p y) (all_pushed p xs x)
  where
    by : (b : Bool) → list_all p (xs ++ x ∷ []) ≡ (list_all p xs && p x) → (b && list_all p (xs ++ x ∷ [])) ≡ ((b && list_all p xs) && p x)
    by true later = later
    by false later = refl

pub any_pushed : {X : Type 0} (p : X → Bool) (xs : List X) (x : X) → list_any p (xs ++ x ∷ []) ≡ (list_any p xs || p x)
any_pushed p [] x = by (p x)
  where
    by : (b : Bool) → (b || false) ≡ (false || b)
    by true = refl
    by false = refl
any_pushed p (y ∷ xs) x = by (p y) (any_pushed p xs x)
  where
    by : (b : Bool) → list_any p (xs ++ x ∷ []) ≡ (list_any p xs || p x) → (b || list_any p (xs ++ x ∷ [])) ≡ ((b || list_any p xs) || p x)
    by true later = refl
    by false later = later

-- what all elements pass, they pass by a weaker test
pub filter_weaker : {X : Type 0} (p q : X → Bool) (xs : List X) → ((x : X) → p x ≡ true → q x ≡ true) → filter p xs ≡ xs → filter q xs ≡ xs
filter_weaker p q xs weaker same = ap (filter q) (sym same) ∙ filter_twice q p xs
    ∙ filter_same (λ x. p x && q x) p xs (λ x. by (p x) (q x) (weaker x)) ∙ same
  where
    by : (a b : Bool) → (a ≡ true → b ≡ true) → (a && b) ≡ a
    by true b h = h refl
    by false b h = refl

-- ---- one of some

-- what is left adds to the documents that were found as all do
abbrev pub AddsAny : {X : Type 0} → Facets → (RowsView → X → Bool) → List X → List ℕ → List X → List ℕ → Type 0
AddsAny facets p left found whole ids = (documents : List LeavesView) (rows : ℕ → RowsView) → AreFacetsOf facets documents → AreRowsOf rows documents
    → (d : ℕ) → ((list_any (p (rows d)) left && has ids d) || has found d) ≡ (list_any (p (rows d)) whole && has ids d)

-- the documents that pass were found
abbrev pub AreFound : Facets → (RowsView → Bool) → List ℕ → List ℕ → Type 0
AreFound facets passes found ids = (documents : List LeavesView) (rows : ℕ → RowsView) → AreFacetsOf facets documents → AreRowsOf rows documents
    → (d : ℕ) → passes (rows d) ≡ true → has ids d ≡ true → has found d ≡ true

pub any_more : AreByMembers → {X : Type 0} (facets : Facets) (p : RowsView → X → Bool) (xs : List X) (i : ℕ) (x : X) (docs found more ids : List ℕ)
    → i < length xs → x ≡ get_or xs i x → Selects facets (λ rows. p rows x) ids docs → more ≡ union docs found
    → AddsAny facets p (drop i xs) found xs ids → AddsAny facets p (drop (i + 1) xs) more xs ids
any_more by_members facets p xs i x docs found more ids inside is selects made adds = λ documents rows of are d.
    ap (λ b. (list_any (p (rows d)) (drop (i + 1) xs) && has ids d) || b)
    (ap (λ ys. has ys d) made ∙ by_members.union docs found d
    ∙ ap (λ b. b || has found d) (ap (λ ys. has ys d) (selects documents rows of are) ∙ has_filter (λ e. p (rows e) x) ids d))
    ∙ one_more (list_any (p (rows d)) (drop (i + 1) xs)) (p (rows d) x) (has ids d) (has found d)
    ∙ ap (λ ys. (list_any (p (rows d)) ys && has ids d) || has found d) (rest_from xs i x inside is) ∙ adds documents rows of are d

-- one whose documents were found need not be asked
pub any_passed : {X : Type 0} (facets : Facets) (p : RowsView → X → Bool) (xs : List X) (i : ℕ) (x : X) (found ids : List ℕ)
    → i < length xs → x ≡ get_or xs i x → AreFound facets (λ rows. p rows x) found ids
    → AddsAny facets p (drop i xs) found xs ids → AddsAny facets p (drop (i + 1) xs) found xs ids
any_passed facets p xs i x found ids inside is there adds = λ documents rows of are d.
    covered (p (rows d) x) (list_any (p (rows d)) (drop (i + 1) xs)) (has ids d) (has found d) (there documents rows of are d)
    ∙ ap (λ ys. (list_any (p (rows d)) ys && has ids d) || has found d) (rest_from xs i x inside is) ∙ adds documents rows of are d
  where
    covered : (m r h f : Bool) → (m ≡ true → h ≡ true → f ≡ true) → ((r && h) || f) ≡ (((m || r) && h) || f)
    covered true r true f k = ap (λ b. (r && true) || b) (k refl refl) ∙ or_true (r && true)
    covered true r false f k = ap (λ b. b || f) (and_false r)
    covered false r h f k = refl

pub found_now : AreByMembers → (facets : Facets) (passes : RowsView → Bool) (docs found more ids : List ℕ)
    → Selects facets passes ids docs → more ≡ union docs found → AreFound facets passes more ids
found_now by_members facets passes docs found more ids selects made = λ documents rows of are d met inside.
    ap (λ ys. has ys d) made ∙ by_members.union docs found d
    ∙ ap (λ b. b || has found d) (ap (λ ys. has ys d) (selects documents rows of are) ∙ has_filter (λ e. passes (rows e)) ids d ∙ ap₂ (λ a b. a && b) met inside)

pub still_found : AreByMembers → (facets : Facets) (passes : RowsView → Bool) (docs found more ids : List ℕ)
    → more ≡ union docs found → AreFound facets passes found ids → AreFound facets passes more ids
still_found by_members facets passes docs found more ids made there = λ documents rows of are d met inside.
    ap (λ ys. has ys d) made ∙ by_members.union docs found d ∙ ap (λ b. has docs d || b) (there documents rows of are d met inside) ∙ or_true (has docs d)

pub any_selected : {X : Type 0} (facets : Facets) (p : RowsView → X → Bool) (xs : List X) (i : ℕ) (found docs ids : List ℕ) → length xs ≤ i
    → AddsAny facets p (drop i xs) found xs ids
    → ((passes : ℕ → Bool) → ((d : ℕ) → has found d ≡ (passes d && has ids d)) → docs ≡ filter passes ids)
    → Selects facets (λ rows. list_any (p rows) xs) ids docs
any_selected facets p xs i found docs ids past adds finish = λ documents rows of are.
    finish (λ d. list_any (p (rows d)) xs) (λ d.
    ap (λ ys. (list_any (p (rows d)) ys && has ids d) || has found d) (sym (no_rest xs i past)) ∙ adds documents rows of are d)

-- ---- each of some

-- what is left narrows the documents as all do
abbrev pub NarrowsAll : {X : Type 0} → Facets → (RowsView → X → Bool) → List X → List ℕ → List X → List ℕ → Type 0
NarrowsAll facets p left docs whole ids = (documents : List LeavesView) (rows : ℕ → RowsView) → AreFacetsOf facets documents → AreRowsOf rows documents
    → filter (λ d. list_all (p (rows d)) left) docs ≡ filter (λ d. list_all (p (rows d)) whole) ids

-- all the documents pass
abbrev pub AllPass : Facets → (RowsView → Bool) → List ℕ → Type 0
AllPass facets passes docs = (documents : List LeavesView) (rows : ℕ → RowsView) → AreFacetsOf facets documents → AreRowsOf rows documents
    → filter (λ d. passes (rows d)) docs ≡ docs

pub all_narrower : {X : Type 0} (facets : Facets) (p : RowsView → X → Bool) (xs : List X) (i : ℕ) (x : X) (docs more ids : List ℕ)
    → i < length xs → x ≡ get_or xs i x → Selects facets (λ rows. p rows x) docs more
    → NarrowsAll facets p (drop i xs) docs xs ids → NarrowsAll facets p (drop (i + 1) xs) more xs ids
all_narrower facets p xs i x docs more ids inside is selects narrows = λ documents rows of are.
    ap (filter (λ d. list_all (p (rows d)) (drop (i + 1) xs))) (selects documents rows of are)
    ∙ filter_twice (λ d. list_all (p (rows d)) (drop (i + 1) xs)) (λ d. p (rows d) x) docs
    ∙ ap (λ ys. filter (λ d. list_all (p (rows d)) ys) docs) (rest_from xs i x inside is) ∙ narrows documents rows of are

-- one that all the documents pass need not be asked
pub all_passed : {X : Type 0} (facets : Facets) (p : RowsView → X → Bool) (xs : List X) (i : ℕ) (x : X) (docs ids : List ℕ)
    → i < length xs → x ≡ get_or xs i x → AllPass facets (λ rows. p rows x) docs
    → NarrowsAll facets p (drop i xs) docs xs ids → NarrowsAll facets p (drop (i + 1) xs) docs xs ids
all_passed facets p xs i x docs ids inside is pass narrows = λ documents rows of are.
    ap (filter (λ d. list_all (p (rows d)) (drop (i + 1) xs))) (sym (pass documents rows of are))
    ∙ filter_twice (λ d. list_all (p (rows d)) (drop (i + 1) xs)) (λ d. p (rows d) x) docs
    ∙ ap (λ ys. filter (λ d. list_all (p (rows d)) ys) docs) (rest_from xs i x inside is) ∙ narrows documents rows of are

pub pass_now : (facets : Facets) (passes : RowsView → Bool) (docs more : List ℕ) → Selects facets passes docs more → AllPass facets passes more
pass_now facets passes docs more selects = λ documents rows of are.
    ap (filter (λ d. passes (rows d))) (selects documents rows of are) ∙ filter_twice (λ d. passes (rows d)) (λ d. passes (rows d)) docs
    ∙ filter_same (λ d. passes (rows d) && passes (rows d)) (λ d. passes (rows d)) docs (λ d. by (passes (rows d))) ∙ sym (selects documents rows of are)
  where
    by : (b : Bool) → (b && b) ≡ b
    by true = refl
    by false = refl

pub pass_weaker : (facets : Facets) (passes other : RowsView → Bool) (docs : List ℕ) → ((rows : RowsView) → passes rows ≡ true → other rows ≡ true)
    → AllPass facets passes docs → AllPass facets other docs
pass_weaker facets passes other docs weaker pass = λ documents rows of are.
    filter_weaker (λ d. passes (rows d)) (λ d. other (rows d)) docs (λ d. weaker (rows d)) (pass documents rows of are)

pub all_narrowed : {X : Type 0} (facets : Facets) (p : RowsView → X → Bool) (xs : List X) (i : ℕ) (docs ids : List ℕ) → length xs ≤ i
    → NarrowsAll facets p (drop i xs) docs xs ids → Selects facets (λ rows. list_all (p rows) xs) ids docs
all_narrowed facets p xs i docs ids past narrows = λ documents rows of are.
    sym (filter_all docs) ∙ ap (λ ys. filter (λ d. list_all (p (rows d)) ys) docs) (sym (no_rest xs i past)) ∙ narrows documents rows of are

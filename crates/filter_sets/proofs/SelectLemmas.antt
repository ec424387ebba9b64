-- Filters of filters.
use Rattle.std.proofs.Common.{◌≡◌, ℕ, zero, suc, ◌+◌, ◌<◌, ◌≤◌, Bool, true, false, ◌&&◌, ◌||◌, List, [], ◌∷◌, ◌++◌, map, drop, length, get_or, Result, Ok, Err, refl, sym, ap, ap₂, ◌∙◌, arith, drop-cons}
use Rattle.std.specs.List.{filter, list_all, list_any}
use Rattle.std.specs.Result.{IfOk}
use Rattle.search_base.specs.RowsView.{RowsView}
use Rattle.doc_sets.specs.Sets.{has}
use Rattle.doc_sets.specs.Membership.{AreByMembers}
use Rattle.doc_sets.specs.Sets.{union}
use Rattle.doc_sets.specs.SetView.{SetView}
use Rattle.filter_tree.specs.declared.tree.Filter.{Filter, Filter-F, fold-roll-Filter}
use Rattle.filter_tree.specs.declared.tree.Filter.TheVariants as filter
use Rattle.filter_tree.specs.Tree.{Tree, Trees, all, no_trees, tree, trees_of}
use Rattle.filter_tree.specs.View.{view, view_step}
use Rattle.row_filter.specs.Holds.{holds, all_hold, one_holds}
use Rattle.facet_index.specs.LeavesView.{LeavesView}
use Rattle.filter_sets.specs.declared.source.Facets.{Facets}
use Rattle.filter_sets.specs.declared.conditions.Condition.{Condition}
use Rattle.filter_sets.specs.Selects.{AreFacetsOf, AreRowsOf, Selects}
use Rattle.filter_sets.specs.Conditions.{is_met}
use Rattle.filter_sets.proofs.JoinLemmas.{filter_twice, filter_all, one_more}
use Rattle.filter_sets.proofs.SweepLemmas.{all_pushed, any_pushed}
use Rattle.facet_index.proofs.TestLemmas.{filter_same, has_filter}

-- ---- the members of a filter

-- what is left of members
abbrev pub trees_from : ℕ → List Filter → Trees
trees_from i members = trees_of (map view (drop i members))

next_trees : (members : List Filter) (i : ℕ) (member : Filter) → i < length members → member ≡ get_or members i member
    → trees_from i members ≡ tree (view member) (trees_from (i + 1) members)
next_trees members i member inside is =
    let e : suc i ≡ i + 1 = omega arith in
    ap (λ fs. trees_of (map view fs)) (drop-cons members i member inside)
    ∙ ap₂ (λ f n. tree (view f) (trees_of (map view (drop n members)))) (sym is) e

no_more : (members : List Filter) (i : ℕ) → length members ≤ i → trees_from i members ≡ no_trees
no_more members i past = ap (λ fs. trees_of (map view fs)) (none members i past)
  where
    none : (fs : List Filter) (n : ℕ) → length fs ≤ n → drop n fs ≡ []
    none [] zero h = refl
    none [] (suc n) h = refl
    none (f ∷ fs) zero h = absurd (omega arith)
    none (f ∷ fs) (suc n) h = none fs n (omega arith)

-- what is left, and the conditions that are not asked yet, narrow the documents as all members do
abbrev pub Narrows : Facets → List (List ℕ) → Trees → List Condition → List ℕ → Trees → List ℕ → Type 0
Narrows facets paths left conditions docs members ids = (documents : List LeavesView) (rows : ℕ → RowsView) → AreFacetsOf facets documents → AreRowsOf rows documents
    → filter (λ d. all_hold paths (rows d) left && list_all (is_met (rows d)) conditions) docs ≡ filter (λ d. all_hold paths (rows d) members) ids

pub narrower : (facets : Facets) (paths : List (List ℕ)) (members : List Filter) (i : ℕ) (member : Filter) (conditions : List Condition) (docs more ids : List ℕ) (whole : Trees)
    → i < length members → member ≡ get_or members i member → Selects facets (λ rows. holds paths rows (view member)) docs more
    → Narrows facets paths (trees_from i members) conditions docs whole ids → Narrows facets paths (trees_from (i + 1) members) conditions more whole ids
narrower facets paths members i member conditions docs more ids whole inside is selects narrows = λ documents rows of are.
    ap (filter (λ d. all_hold paths (rows d) (trees_from (i + 1) members) && list_all (is_met (rows d)) conditions)) (selects documents rows of are)
    ∙ filter_twice (λ d. all_hold paths (rows d) (trees_from (i + 1) members) && list_all (is_met (rows d)) conditions) (λ d. holds paths (rows d) (view member)) docs
    ∙ filter_same (λ d. holds paths (rows d) (view member) && (all_hold paths (rows d) (trees_from (i + 1) members) && list_all (is_met (rows d)) conditions))
    (λ d. all_hold paths (rows d) (trees_from i members) && list_all (is_met (rows d)) conditions) docs
    (λ d. and_assoc (holds paths (rows d) (view member)) (all_hold paths (rows d) (trees_from (i + 1) members)) (list_all (is_met (rows d)) conditions)
    ∙ ap (λ ts. all_hold paths (rows d) ts && list_all (is_met (rows d)) conditions) (sym (next_trees members i member inside is)))
    ∙ narrows documents rows of are
  where
    and_assoc : (h r l : Bool) → (h && (r && l)) ≡ ((h && r) && l)
    and_assoc true r l = refl
    and_assoc false r l = refl

-- a member that is a condition is asked later
pub kept : (facets : Facets) (paths : List (List ℕ)) (members : List Filter) (i : ℕ) (member : Filter) (conditions more : List Condition) (condition : Condition)
    → (docs ids : List ℕ) (whole : Trees) → i < length members → member ≡ get_or members i member
    → ((rows : RowsView) → holds paths rows (view member) ≡ is_met rows condition) → more ≡ conditions ++ condition ∷ []
    → Narrows facets paths (trees_from i members) conditions docs whole ids → Narrows facets paths (trees_from (i + 1) members) more docs whole ids
kept facets paths members i member conditions more condition docs ids whole inside is says pushed narrows = λ documents rows of are.
    filter_same (λ d. all_hold paths (rows d) (trees_from (i + 1) members) && list_all (is_met (rows d)) more)
    (λ d. all_hold paths (rows d) (trees_from i members) && list_all (is_met (rows d)) conditions) docs
    (λ d. ap (λ b. all_hold paths (rows d) (trees_from (i + 1) members) && b)
    (ap (list_all (is_met (rows d))) pushed ∙ all_pushed (is_met (rows d)) conditions condition
    ∙ ap (λ b. list_all (is_met (rows d)) conditions && b) (sym (says (rows d))))
    ∙ by (all_hold paths (rows d) (trees_from (i + 1) members)) (list_all (is_met (rows d)) conditions) (holds paths (rows d) (view member))
    ∙ ap (λ ts. all_hold paths (rows d) ts && list_all (is_met (rows d)) conditions) (sym (next_trees members i member inside is)))
    ∙ narrows documents rows of are
  where
    by : (r l m : Bool) → (r && (l && m)) ≡ ((m && r) && l)
    by true true true = refl
    by true true false = refl
    by true false true = refl
    by true false false = refl
    by false l true = refl
    by false l false = refl

pub narrowed : (facets : Facets) (paths : List (List ℕ)) (members : List Filter) (i : ℕ) (conditions : List Condition) (docs more ids : List ℕ) (whole : Trees)
    → length members ≤ i → Narrows facets paths (trees_from i members) conditions docs whole ids
    → Selects facets (λ rows. list_all (is_met rows) conditions) docs more → Selects facets (λ rows. all_hold paths rows whole) ids more
narrowed facets paths members i conditions docs more ids whole past narrows selects = λ documents rows of are.
    selects documents rows of are
    ∙ ap (λ ts. filter (λ d. all_hold paths (rows d) ts && list_all (is_met (rows d)) conditions) docs) (sym (no_more members i past)) ∙ narrows documents rows of are

pub narrowed_answer : {E : Type 0} (facets : Facets) (paths : List (List ℕ)) (members : List Filter) (i : ℕ) (conditions : List Condition) (docs ids : List ℕ) (whole : Trees)
    → length members ≤ i → Narrows facets paths (trees_from i members) conditions docs whole ids → (r : Result SetView E)
    → IfOk r (λ more. Selects facets (λ rows. list_all (is_met rows) conditions) docs more.ids) → IfOk r (λ more. Selects facets (λ rows. all_hold paths rows whole) ids more.ids)
narrowed_answer facets paths members i conditions docs ids whole past narrows (Ok more) h = narrowed facets paths members i conditions docs more.ids ids whole past narrows h
narrowed_answer facets paths members i conditions docs ids whole past narrows (Err e) h = tt

-- what is left, and the conditions that are not asked yet, add to the documents that were found as all members do
abbrev pub Adds : Facets → List (List ℕ) → Trees → List Condition → List ℕ → Trees → List ℕ → Type 0
Adds facets paths left conditions found members ids = (documents : List LeavesView) (rows : ℕ → RowsView) → AreFacetsOf facets documents → AreRowsOf rows documents
    → (d : ℕ) → (((one_holds paths (rows d) left || list_any (is_met (rows d)) conditions) && has ids d) || has found d) ≡ (one_holds paths (rows d) members && has ids d)

pub adds_more : AreByMembers → (facets : Facets) (paths : List (List ℕ)) (members : List Filter) (i : ℕ) (member : Filter) (conditions : List Condition) (docs found more ids : List ℕ) (whole : Trees)
    → i < length members → member ≡ get_or members i member → Selects facets (λ rows. holds paths rows (view member)) ids docs → more ≡ union docs found
    → Adds facets paths (trees_from i members) conditions found whole ids → Adds facets paths (trees_from (i + 1) members) conditions more whole ids
adds_more by_members facets paths members i member conditions docs found more ids whole inside is selects made adds = λ documents rows of are d.
    ap (λ b. ((one_holds paths (rows d) (trees_from (i + 1) members) || list_any (is_met (rows d)) conditions) && has ids d) || b)
    (ap (λ xs. has xs d) made ∙ by_members.union docs found d
    ∙ ap (λ b. b || has found d) (ap (λ xs. has xs d) (selects documents rows of are) ∙ has_filter (λ e. holds paths (rows e) (view member)) ids d))
    ∙ one_more (one_holds paths (rows d) (trees_from (i + 1) members) || list_any (is_met (rows d)) conditions) (holds paths (rows d) (view member)) (has ids d) (has found d)
    ∙ ap (λ b. (b && has ids d) || has found d)
    (or_assoc (holds paths (rows d) (view member)) (one_holds paths (rows d) (trees_from (i + 1) members)) (list_any (is_met (rows d)) conditions))
    ∙ ap (λ ts. ((one_holds paths (rows d) ts || list_any (is_met (rows d)) conditions) && has ids d) || has found d) (sym (next_trees members i member inside is))
    ∙ adds documents rows of are d
  where
    or_assoc : (m r l : Bool) → (m || (r || l)) ≡ ((m || r) || l)
    or_assoc true r l = refl
    or_assoc false r l = refl

pub adds_kept : (facets : Facets) (paths : List (List ℕ)) (members : List Filter) (i : ℕ) (member : Filter) (conditions more : List Condition) (condition : Condition)
    → (found ids : List ℕ) (whole : Trees) → i < length members → member ≡ get_or members i member
    → ((rows : RowsView) → holds paths rows (view member) ≡ is_met rows condition) → more ≡ conditions ++ condition ∷ []
    → Adds facets paths (trees_from i members) conditions found whole ids → Adds facets paths (trees_from (i + 1) members) more found whole ids
adds_kept facets paths members i member conditions more condition found ids whole inside is says pushed adds = λ documents rows of are d.
    ap (λ b. (b && has ids d) || has found d)
    (ap (λ b. one_holds paths (rows d) (trees_from (i + 1) members) || b)
    (ap (list_any (is_met (rows d))) pushed ∙ any_pushed (is_met (rows d)) conditions condition
    ∙ ap (λ b. list_any (is_met (rows d)) conditions || b) (sym (says (rows d))))
    ∙ by (one_holds paths (rows d) (trees_from (i + 1) members)) (list_any (is_met (rows d)) conditions) (holds paths (rows d) (view member)))
    ∙ ap (λ ts. ((one_holds paths (rows d) ts || list_any (is_met (rows d)) conditions) && has ids d) || has found d) (sym (next_trees members i member inside is))
    ∙ adds documents rows of are d
  where
    by : (r l m : Bool) → (r || (l || m)) ≡ ((m || r) || l)
    by true l true = refl
    by true l false = refl
    by false true true = refl
    by false true false = refl
    by false false true = refl
    by false false false = refl

pub added : AreByMembers → (facets : Facets) (paths : List (List ℕ)) (members : List Filter) (i : ℕ) (conditions : List Condition) (docs found more those ids : List ℕ) (whole : Trees)
    → length members ≤ i → Adds facets paths (trees_from i members) conditions found whole ids
    → Selects facets (λ rows. list_any (is_met rows) conditions) ids docs → more ≡ union docs found
    → ((passes : ℕ → Bool) → ((d : ℕ) → has more d ≡ (passes d && has ids d)) → those ≡ filter passes ids)
    → Selects facets (λ rows. one_holds paths rows whole) ids those
added by_members facets paths members i conditions docs found more those ids whole past adds selects made finish = λ documents rows of are.
    finish (λ d. one_holds paths (rows d) whole) (λ d.
    ap (λ xs. has xs d) made ∙ by_members.union docs found d
    ∙ ap (λ b. b || has found d) (ap (λ xs. has xs d) (selects documents rows of are) ∙ has_filter (λ e. list_any (is_met (rows e)) conditions) ids d)
    ∙ ap (λ ts. ((one_holds paths (rows d) ts || list_any (is_met (rows d)) conditions) && has ids d) || has found d) (sym (no_more members i past))
    ∙ adds documents rows of are d)

pub added_answer : {E : Type 0} → AreByMembers → (facets : Facets) (paths : List (List ℕ)) (members : List Filter) (i : ℕ) (conditions : List Condition) (docs found more ids : List ℕ) (whole : Trees)
    → length members ≤ i → Adds facets paths (trees_from i members) conditions found whole ids
    → Selects facets (λ rows. list_any (is_met rows) conditions) ids docs → more ≡ union docs found → (r : Result SetView E)
    → IfOk r (λ those. (passes : ℕ → Bool) → ((d : ℕ) → has more d ≡ (passes d && has ids d)) → those.ids ≡ filter passes ids)
    → IfOk r (λ those. Selects facets (λ rows. one_holds paths rows whole) ids those.ids)
added_answer by_members facets paths members i conditions docs found more ids whole past adds selects made (Ok those) h =
    added by_members facets paths members i conditions docs found more those.ids ids whole past adds selects made h
added_answer by_members facets paths members i conditions docs found more ids whole past adds selects made (Err e) h = tt

-- ---- the levels of a filter

view_all : view filter.All ≡ all
view_all = ap view (sym filter.rolls-All) ∙ fold-roll-Filter Tree view_step Filter-F.All

pub all_selected : (facets : Facets) (paths : List (List ℕ)) (self : Filter) (ids docs : List ℕ) → self ≡ filter.All → docs ≡ ids
    → Selects facets (λ rows. holds paths rows (view self)) ids docs
all_selected facets paths self ids docs is same = λ documents rows of are.
    same ∙ sym (ap (λ t. filter (λ d. holds paths (rows d) t) ids) (ap view is ∙ view_all) ∙ filter_all ids)

-- Which level of a query matches a document first.
use Rattle.std.proofs.Common.{◌≡◌, ℕ, zero, suc, ◌+◌, ◌<◌, ◌≤◌, Bool, true, false, not, ◌&&◌, ◌||◌, cond, List, [], ◌∷◌, take, length, refl, sym, ap, subst, ◌∙◌, arith, Option, Some, None, is_some, IfSome, ap₂, ◌++◌, ◌⊎◌, inl, inr, length-append}
use Rattle.std.specs.List.{list_any, slice_get}
use Rattle.std.proofs.lemmas.Option.{slice_get_within, get_or_from_slice_get}
use Rattle.search_base.specs.declared.document.Place.{Place}
use Rattle.search_base.specs.GraphView.{GraphView, LevelView}
use Rattle.search_base.specs.RowsView.{RowsView}
use Rattle.search_base.specs.declared.rule.Rule.TheVariants.{Words}
use Rattle.search_base.specs.Sums.{least_cost}
use Rattle.search_base.proofs.MatchLemmas.{some-cost, words-cost_nothing}
use Rattle.search_base.specs.Tuple.{cost_of}
use Rattle.search_base.specs.WordsCost.{level_matches, words_cost_from}
use Rattle.doc_sets.specs.Sets.{has, difference}
use Rattle.doc_sets.specs.SetView.{SetView}
use Rattle.doc_sets.proofs.SetLemmas.{has-filter}
use Rattle.path_costs.specs.Costs.{is_cost, IsBucket}
use Rattle.path_costs.proofs.ListLemmas.{slice_get-some, slice_get-push}
use Rattle.path_costs.proofs.SetLemmas.{filter-agree}
use Rattle.rule_buckets.specs.Entries.{is_match}
use Rattle.rule_buckets.specs.Rules.{AreLevels, IsCount}
use Rattle.rule_buckets.proofs.Members.{alike, some-member, any-at, any-where, any-more}

-- the costs of documents of words are 0, so the first bucket has all that have a cost
pub all-of_words : (cost : ℕ → Option ℕ) (old new docs : List ℕ) (c : ℕ) → IsBucket cost old new c docs
    → ((d : ℕ) → IfSome (cost d) (λ n. n ≡ 0)) → (d : ℕ) → has docs d ≡ (has old d && is_some (cost d))
all-of_words cost old new docs c is zeros d =
    ap (λ l. has l d) is.docs_are ∙ has-filter (λ x. is_cost c (cost x)) old d ∙ ap (λ b. has old d && b) (tests (cost d) (zeros d))
  where
    is-zero : c ≡ 0
    is-zero =
        let one = some-member docs is.some in
        let kept = sym (ap (λ l. has l one.0) is.docs_are ∙ has-filter (λ x. is_cost c (cost x)) old one.0) ∙ one.1 in
        least (cost one.0) (zeros one.0) (has old one.0) kept
      where
        least : (o : Option ℕ) → IfSome o (λ n. n ≡ 0) → (b : Bool) → (b && is_cost c o) ≡ true → c ≡ 0
        least None z true h = absurd (cc)
        least None z false h = absurd (cc)
        least (Some n) z true h = grind (arith, z)
        least (Some n) z false h = absurd (cc)

    tests : (o : Option ℕ) → IfSome o (λ n. n ≡ 0) → is_cost c o ≡ is_some o
    tests None z = refl
    tests (Some n) z = let e = is-zero in grind (arith, z)

-- the first level that matches is none of those passed, and one of those left
pub within-levels : (places : List Place) (levels : List LevelView) (j n : ℕ) → words_cost_from j places levels ≡ Some n → (j ≤ n) × (n < j + length levels)
within-levels places [] j n e = absurd (cc)
within-levels places (l ∷ ls) j n e = cases (within-levels places ls (j + 1) n) (level_matches places l) refl
  where
    cases : (words_cost_from (j + 1) places ls ≡ Some n → (j + 1 ≤ n) × (n < j + 1 + length ls)) → (b : Bool) → level_matches places l ≡ b
        → (j ≤ n) × (n < j + length (l ∷ ls))
    cases deeper true h =
        let now : Some j ≡ Some n = sym (ap (λ b. cond b (Some j) (words_cost_from (j + 1) places ls)) h) ∙ e in
        let eq : j ≡ n = cc in (omega arith, omega arith)
    cases deeper false h =
        let more = deeper (sym (ap (λ b. cond b (Some j) (words_cost_from (j + 1) places ls)) h) ∙ e) in
        (omega (arith, more.0), omega (arith, more.1))

not-yet : (places : List Place) (levels : List LevelView) (j : ℕ) (o : Option ℕ) → words_cost_from (j + 1) places levels ≡ o → is_cost j o ≡ false
not-yet places levels j None e = refl
not-yet places levels j (Some n) e = let more = (within-levels places levels (j + 1) n e).0 in grind (arith, more)

-- a level matches first where it matches and none before it does
pub first-at : (places : List Place) (levels : List LevelView) (j k : ℕ) (view : LevelView) → slice_get levels k ≡ Some view
    → is_cost (j + k) (words_cost_from j places levels) ≡ (not (list_any (level_matches places) (take k levels)) && level_matches places view)
first-at places [] j k view e = absurd (cc)
first-at places (l ∷ ls) j zero view e = cases (level_matches places l) refl
  where
    same : l ≡ view
    same = cc

    cases : (b : Bool) → level_matches places l ≡ b → is_cost (j + 0) (cond (level_matches places l) (Some j) (words_cost_from (j + 1) places ls)) ≡ level_matches places view
    cases true h = rw (← same, h) (grind arith)
    cases false h = rw (← same, h) (ap (λ i. is_cost i (words_cost_from (j + 1) places ls)) (omega arith) ∙ not-yet places ls j _ refl)
first-at places (l ∷ ls) j (suc k) view e = cases (first-at places ls (j + 1) k view e) (level_matches places l) refl
  where
    cases : is_cost (j + 1 + k) (words_cost_from (j + 1) places ls) ≡ (not (list_any (level_matches places) (take k ls)) && level_matches places view)
        → (b : Bool) → level_matches places l ≡ b
        → is_cost (j + suc k) (cond (level_matches places l) (Some j) (words_cost_from (j + 1) places ls))
        ≡ (not (level_matches places l || list_any (level_matches places) (take k ls)) && level_matches places view)
    cases deeper true h = rw h (grind arith)
    cases deeper false h = rw h (ap (λ i. is_cost i (words_cost_from (j + 1) places ls)) (omega arith) ∙ deeper)

in-count : (lvs : List LevelView) (places : List Place) (k : ℕ) (levels : List SetView) → IsCount lvs (length levels) → cost_of places lvs ≡ Some k → k < length levels
in-count [] places k levels count e = let zero : 0 ≡ k = cc in omega (arith, count)
in-count (l ∷ ls) places k levels count e = let w = (within-levels places (l ∷ ls) 0 k e).1 in omega (arith, w, count)

-- the documents of all levels are those that match
pub any-level : (rows : ℕ → RowsView) (graph : GraphView) (universe : List ℕ) (levels : List SetView) → AreLevels rows graph universe levels
    → (d : ℕ) → list_any (λ s. has s.ids d) levels ≡ (has universe d && is_match (rows d) graph)
any-level rows graph universe levels are d = alike _ _ to from
  where
    split : (u : Bool) (k : ℕ) (o : Option ℕ) → (u && is_cost k o) ≡ true → (u && is_some o) ≡ true
    split true k None h = cc
    split true k (Some n) h = refl
    split false k o h = h

    to : list_any (λ s. has s.ids d) levels ≡ true → (has universe d && is_match (rows d) graph) ≡ true
    to h =
        let w = any-where (λ s. has s.ids d) levels h in
        split (has universe d) w.0 (cost_of (rows d).places graph.levels) (sym (are.each w.0 w.1 w.2 d) ∙ w.3)

    at : (u : Bool) (o : Option ℕ) → ((k : ℕ) → o ≡ Some k → (s : SetView) × (i : ℕ) × (slice_get levels i ≡ Some s) × (has s.ids d ≡ (u && is_cost k o)))
        → (u && is_some o) ≡ true → list_any (λ s. has s.ids d) levels ≡ true
    at true None f h = absurd (cc)
    at false o f h = absurd (cc)
    at true (Some k) f h =
        let w = f k refl in any-at (λ s. has s.ids d) levels w.1 w.0 w.2 (w.3 ∙ grind arith)

    from : (has universe d && is_match (rows d) graph) ≡ true → list_any (λ s. has s.ids d) levels ≡ true
    from h = at (has universe d) (cost_of (rows d).places graph.levels)
        (λ k e. let s = slice_get-some levels k (in-count graph.levels (rows d).places k levels are.count e) in (s.0, k, s.1, are.each k s.0 s.1 d)) h

-- the documents that each of the first levels matches first, and those that none of them matches
pub record AreFirst (rows : ℕ → RowsView) (lvs : List LevelView) (universe : List ℕ) (at : ℕ) (levels : List SetView) (others : List ℕ) : Type 0 where
  pub count : length levels ≡ at
  pub each : (k : ℕ) (set : SetView) (view : LevelView) → slice_get levels k ≡ Some set → slice_get lvs k ≡ Some view → (d : ℕ)
      → has set.ids d ≡ (has universe d && (not (list_any (level_matches (rows d).places) (take k lvs)) && level_matches (rows d).places view))
  pub rest : (d : ℕ) → has others d ≡ (has universe d && not (list_any (level_matches (rows d).places) (take at lvs)))

-- where costs agree on the documents that remain, they have the same bucket
pub bucket-agree : (p q : ℕ → Option ℕ) (old new : List ℕ) (least : ℕ) (docs : List ℕ) → ((d : ℕ) → has old d ≡ true → p d ≡ q d) → IsBucket p old new least docs → IsBucket q old new least docs
bucket-agree p q old new least docs same is = record {
  some = is.some;
  docs_are = is.docs_are ∙ filter-agree (λ d. is_cost least (p d)) (λ d. is_cost least (q d)) old (λ d h. ap (is_cost least) (same d h));
  rest_are = is.rest_are ∙ filter-agree (λ d. not (is_cost least (p d))) (λ d. not (is_cost least (q d))) old (λ d h. ap (λ o. not (is_cost least o)) (same d h));
  is_least = λ d c h e. is.is_least d c h (same d h ∙ e);
}

-- the documents that a level of the query matches, where a bucket of the costs of words has them
pub matched : (rows : ℕ → RowsView) (cost : ℕ → Option ℕ) (old universe new docs : List ℕ) (c : ℕ) (view : LevelView) → old ≡ universe
    → ((d : ℕ) → cost d ≡ least_cost Words (rows d).places view) → IsBucket cost old new c docs
    → (d : ℕ) → has docs d ≡ (has universe d && level_matches (rows d).places view)
matched rows cost old universe new docs c view same are is d =
    all-of_words cost old new docs c is (λ x. subst (λ o. IfSome o (λ n. n ≡ 0)) (sym (are x)) (words-cost_nothing (rows x).places view)) d
    ∙ ap₂ (λ l o. has l d && is_some o) same (are d) ∙ ap (λ b. has universe d && b) (some-cost Words (rows d).places view)

-- no document, where no cost is left
pub matched-none : (rows : ℕ → RowsView) (cost : ℕ → Option ℕ) (old universe : List ℕ) (view : LevelView) → old ≡ universe
    → ((d : ℕ) → cost d ≡ least_cost Words (rows d).places view) → ((d : ℕ) → has old d ≡ true → cost d ≡ None)
    → (d : ℕ) → false ≡ (has universe d && level_matches (rows d).places view)
matched-none rows cost old universe view same are none d = by (has universe d) refl
  where
    by : (b : Bool) → has universe d ≡ b → false ≡ (b && level_matches (rows d).places view)
    by true h = sym (sym (some-cost Words (rows d).places view) ∙ ap is_some (sym (are d) ∙ none d (ap (λ l. has l d) same ∙ h)))
    by false h = refl

-- one level more
pub first-more : (rows : ℕ → RowsView) (lvs : List LevelView) (universe : List ℕ) (at : ℕ) (levels : List SetView) (docs rest others : List ℕ) (set : SetView)
    → at < length lvs → AreFirst rows lvs universe at levels rest → set.ids ≡ docs
    → ((view : LevelView) → slice_get lvs at ≡ Some view → (d : ℕ) → has docs d ≡ (has rest d && level_matches (rows d).places view))
    → others ≡ difference rest docs → AreFirst rows lvs universe (at + 1) (levels ++ set ∷ []) others
first-more rows lvs universe at levels docs rest others set within are is found left = record {
  count = length-append levels (set ∷ []) ∙ omega (arith, are.count);
  each = λ k s view e f d. one k s view (slice_get-push levels set k s e) f d;
  rest = λ d. ap (λ l. has l d) left ∙ has-filter (λ x. not (has docs x)) rest d ∙ next d;
}
  where
    view : (v : LevelView) × (slice_get lvs at ≡ Some v)
    view = slice_get-some lvs at within

    shape : (a b c : Bool) → ((a && not b) && not ((a && not b) && c)) ≡ (a && not (b || c))
    shape true true c = refl
    shape true false true = refl
    shape true false false = refl
    shape false b c = refl

    next : (d : ℕ) → (has rest d && not (has docs d)) ≡ (has universe d && not (list_any (level_matches (rows d).places) (take (at + 1) lvs)))
    next d =
        let more = any-more (level_matches (rows d).places) lvs at view.0 within (sym (get_or_from_slice_get lvs at view.0 view.0 view.1)) in
        ap (λ b. has rest d && not b) (found view.0 view.1 d) ∙ ap (λ b. b && not (b && level_matches (rows d).places view.0)) (are.rest d)
        ∙ shape (has universe d) (list_any (level_matches (rows d).places) (take at lvs)) (level_matches (rows d).places view.0)
        ∙ ap (λ b. has universe d && not b) (sym more)

    three : (a b c : Bool) → ((a && b) && c) ≡ (a && (b && c))
    three true b c = refl
    three false b c = refl

    one : (k : ℕ) (s : SetView) (v : LevelView) → (slice_get levels k ≡ Some s) ⊎ ((k ≡ length levels) × (set ≡ s)) → slice_get lvs k ≡ Some v
        → (d : ℕ) → has s.ids d ≡ (has universe d && (not (list_any (level_matches (rows d).places) (take k lvs)) && level_matches (rows d).places v))
    one k s v (inl e) f d = are.each k s v e f d
    one k s v (inr (e, same)) f d =
        let here : k ≡ at = e ∙ are.count in
        ap (λ (t : SetView). has t.ids d) (sym same) ∙ ap (λ l. has l d) is ∙ found v (ap (slice_get lvs) (sym here) ∙ f) d
        ∙ ap (λ b. b && level_matches (rows d).places v) (are.rest d)
        ∙ three (has universe d) _ (level_matches (rows d).places v)
        ∙ ap (λ i. has universe d && (not (list_any (level_matches (rows d).places) (take i lvs)) && level_matches (rows d).places v)) (sym here)

-- at the end these are the levels
pub levels-are : (rows : ℕ → RowsView) (graph : GraphView) (universe : List ℕ) (levels : List SetView) (rest : List ℕ) (at : ℕ)
    → at ≡ length graph.levels → 0 < length graph.levels → AreFirst rows graph.levels universe at levels rest → AreLevels rows graph universe levels
levels-are rows graph universe levels rest at e some are = record {
  each = λ k set f d. one k set f d (slice_get-some graph.levels k (omega (arith, slice_get_within levels k set f, are.count, e)));
  count = counted graph.levels some (are.count ∙ e);
}
  where
    counted : (lvs : List LevelView) → 0 < length lvs → length levels ≡ length lvs → IsCount lvs (length levels)
    counted [] s f = absurd (omega (arith, s))
    counted (l ∷ ls) s f = f

    cost : (lvs : List LevelView) (places : List Place) → 0 < length lvs → cost_of places lvs ≡ words_cost_from 0 places lvs
    cost [] places s = absurd (omega (arith, s))
    cost (l ∷ ls) places s = refl

    one : (k : ℕ) (set : SetView) → slice_get levels k ≡ Some set → (d : ℕ) → (v : LevelView) × (slice_get graph.levels k ≡ Some v)
        → has set.ids d ≡ (has universe d && is_cost k (cost_of (rows d).places graph.levels))
    one k set f d (v, g) =
        are.each k set v f g d
        ∙ ap (λ b. has universe d && b) (sym (ap (λ o. is_cost k o) (cost graph.levels (rows d).places some)
        ∙ ap (λ i. is_cost i (words_cost_from 0 (rows d).places graph.levels)) (omega arith) ∙ first-at (rows d).places graph.levels 0 k v g))

-- the level that matches first matches
pub matches-first : (lvs : List LevelView) (places : List Place) (k : ℕ) (view : LevelView) → slice_get lvs k ≡ Some view
    → is_cost k (cost_of places lvs) ≡ true → level_matches places view ≡ true
matches-first [] places k view e h = absurd (cc)
matches-first (l ∷ ls) places k view e h =
    right (not (list_any (level_matches places) (take k (l ∷ ls)))) (level_matches places view)
    (sym (ap (λ i. is_cost i (words_cost_from 0 places (l ∷ ls))) (omega arith) ∙ first-at places (l ∷ ls) 0 k view e) ∙ h)
  where
    right : (a b : Bool) → (a && b) ≡ true → b ≡ true
    right true b h = h
    right false b h = absurd (cc)

-- the levels are those of the documents that match
pub levels-among : (rows : ℕ → RowsView) (graph : GraphView) (universe matching : List ℕ) (levels : List SetView) → AreLevels rows graph universe levels
    → ((d : ℕ) → has matching d ≡ (has universe d && is_match (rows d) graph)) → AreLevels rows graph matching levels
levels-among rows graph universe matching levels are same = record {
  each = λ k set e d. are.each k set e d ∙ among (has universe d) k (cost_of (rows d).places graph.levels) ∙ ap (λ b. b && is_cost k (cost_of (rows d).places graph.levels)) (sym (same d));
  count = are.count;
}
  where
    among : (u : Bool) (k : ℕ) (o : Option ℕ) → (u && is_cost k o) ≡ ((u && is_some o) && is_cost k o)
    among true k None = refl
    among true k (Some n) = refl
    among false k o = refl

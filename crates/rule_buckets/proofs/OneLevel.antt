-- A query of one level at most.
use Rattle.std.proofs.Common.{◌≡◌, ℕ, zero, suc, ◌<◌, ◌≤◌, Bool, true, false, ◌&&◌, List, [], ◌∷◌, length, map, refl, sym, ap, subst, ◌∙◌, arith, Option, Some, None, is_some, IfSome}
use Rattle.std.specs.List.{slice_get}
use Rattle.search_base.specs.declared.document.Place.{Place}
use Rattle.search_base.specs.GraphView.{GraphView, LevelView}
use Rattle.search_base.specs.RowsView.{RowsView}
use Rattle.search_base.specs.Tuple.{cost_of}
use Rattle.search_base.specs.WordsCost.{level_matches}
use Rattle.doc_sets.specs.Sets.{has, intersection, IsIncreasing}
use Rattle.doc_sets.specs.SetView.{SetView}
use Rattle.doc_sets.proofs.SetLemmas.{or-nil}
use Rattle.bucket_sort.specs.Buckets.{AreAmong}
use Rattle.path_costs.specs.Costs.{is_cost}
use Rattle.rule_buckets.specs.Entries.{is_match}
use Rattle.rule_buckets.specs.Listed.{left_from}
use Rattle.rule_buckets.specs.Rules.{AreLevels, AreLevelsOrOne, AreTheirs, IsCount}
use Rattle.rule_buckets.proofs.Within.{within-levels}

-- without a level each document matches
pub all-match : (places : List Place) (levels : List LevelView) → length levels ≡ 0 → is_some (cost_of places levels) ≡ true
all-match places [] none = refl
all-match places (l ∷ ls) none = absurd (omega (arith, none))

-- those that the one level matches are those that the query does
pub alone : (places : List Place) (levels : List LevelView) (docs universe : Bool) → length levels ≤ 1 → (length levels ≡ 0 → ⊥)
    → IfSome (slice_get levels 0) (λ view. docs ≡ (universe && level_matches places view)) → docs ≡ (universe && is_some (cost_of places levels))
alone places [] docs universe few some is = absurd (some refl)
alone places (l ∷ []) docs universe few some is = is ∙ ap (λ b. universe && b) (by (level_matches places l) refl)
  where
    by : (b : Bool) → level_matches places l ≡ b → level_matches places l ≡ is_some (cost_of places (l ∷ []))
    by true e = rw e refl
    by false e = rw e refl
alone places (l ∷ (m ∷ ls)) docs universe few some is = absurd (omega (arith, few))

-- what matches is matched by the first level
pub first-cost : (places : List Place) (levels : List LevelView) → length levels ≤ 1 → is_some (cost_of places levels) ≡ true
    → is_cost 0 (cost_of places levels) ≡ true
first-cost places [] few h = refl
first-cost places (l ∷ []) few h = by (level_matches places l) refl
  where
    by : (b : Bool) → level_matches places l ≡ b → is_cost 0 (cost_of places (l ∷ [])) ≡ true
    by true e = rw e refl
    by false e = absurd (let none : is_some (cost_of places (l ∷ [])) ≡ false = rw e refl in cc)
first-cost places (l ∷ (m ∷ ls)) few h = absurd (omega (arith, few))

pub one-counts : (levels : List LevelView) → length levels ≤ 1 → IsCount levels 1
one-counts [] few = refl
one-counts (l ∷ []) few = refl
one-counts (l ∷ (m ∷ ls)) few = absurd (omega (arith, few))

module _ (rows : ℕ → RowsView) (graph : GraphView) (matching : List ℕ) where
  pub or-one : (levels : List SetView) → AreLevels rows graph matching levels → AreLevelsOrOne rows graph matching levels
  or-one [] is = none graph.levels is.count
    where
      none : (lvs : List LevelView) → IsCount lvs 0 → length lvs ≤ 1
      none [] c = omega arith
      none (l ∷ ls) c = absurd (omega (arith, c))
  or-one (s ∷ ss) is = is

  pub few-levels : (levels : List SetView) → AreLevelsOrOne rows graph matching levels → length levels ≡ 0 → length graph.levels ≤ 1
  few-levels [] is none = is
  few-levels (s ∷ ss) is none = absurd (omega (arith, none))

  pub several : (levels : List SetView) → AreLevelsOrOne rows graph matching levels → (length levels ≡ 0 → ⊥) → AreLevels rows graph matching levels
  several [] is some = absurd (some refl)
  several (s ∷ ss) is some = is

  -- the same inside some of the documents
  pub within-or-one : (levels sets : List SetView) (docs : List ℕ) → map (λ (s : SetView). s.ids) sets ≡ map (λ (s : SetView). intersection s.ids docs) levels
      → AreLevelsOrOne rows graph matching levels → AreAmong (has matching) docs → AreLevelsOrOne rows graph docs sets
  within-or-one [] [] docs are is among = is
  within-or-one [] (t ∷ ts) docs are is among = absurd (cc)
  within-or-one (s ∷ ss) [] docs are is among = absurd (cc)
  within-or-one (s ∷ ss) (t ∷ ts) docs are is among = within-levels (s ∷ ss) (t ∷ ts) docs are rows graph matching is among

  -- the universe is of the first level, where there is one at most
  pub all-theirs : (sets : List SetView) (universe : SetView) → sets ≡ universe ∷ [] → length graph.levels ≤ 1
      → ((d : ℕ) → has matching d ≡ true → is_match (rows d) graph ≡ true) → AreAmong (has matching) universe.ids → AreTheirs rows graph sets
  all-theirs sets universe are few known among k set f d h = by k (sym (ap (λ l. slice_get l k) are) ∙ f)
    where
      by : (i : ℕ) → slice_get (universe ∷ []) i ≡ Some set → is_cost i (cost_of (rows d).places graph.levels) ≡ true
      by zero g =
          let same : universe ≡ set = cc in
          first-cost (rows d).places graph.levels few (known d (among d (ap (λ (s : SetView). has s.ids d) same ∙ h)))
      by (suc i) g = absurd (cc)

pub left-one : (sets : List SetView) (universe : SetView) → sets ≡ universe ∷ [] → IsIncreasing universe.ids → left_from 0 sets ≡ universe.ids
left-one sets universe are up = ap (left_from 0) are ∙ or-nil universe.ids up

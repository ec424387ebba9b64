-- The levels of a query inside a universe.
use Rattle.std.proofs.Common.{◌≡◌, ℕ, ◌<◌, ◌≤◌, ◌^◌, Bool, true, false, ◌&&◌, List, [], ◌∷◌, map, length, refl, sym, ap, subst, ◌∙◌, ◌⊎◌, inl, inr, arith, Option, Some, None, option_map, unwrap_or}
use Rattle.std.proofs.lemmas.List.{length-map}
use Rattle.std.specs.List.{list_any, slice_get}
use Rattle.std.proofs.lemmas.Option.{slice_get-map}
use Rattle.search_base.specs.declared.cost_key.CostKey.TheVariants.{Number}
use Rattle.search_base.specs.declared.rule.Rule.{Rule}
use Rattle.search_base.specs.declared.rule.Rule.TheVariants.{Words, Proximity, Field, Position, Whole, Inexact, Up, Down}
use Rattle.search_base.specs.EmptyQuery.{is_query_rule}
use Rattle.search_base.specs.GraphView.{GraphView, LevelView}
use Rattle.search_base.specs.Graphs.{IsGraph}
use Rattle.search_base.specs.RowsView.{RowsView}
use Rattle.search_base.specs.Tuple.{cost_of, entry}
use Rattle.search_base.proofs.AnyLemmas.{list_any-map, list_any-same, list_any-and}
use Rattle.search_base.proofs.EmptyLemmas.{entry-empty}
use Rattle.doc_sets.specs.Sets.{has, intersection, IsIncreasing}
use Rattle.doc_sets.specs.SetView.{SetView}
use Rattle.doc_sets.proofs.SetLemmas.{has-filter, increasing-same, increasing-or_all}
use Rattle.bucket_sort.specs.Buckets.{AreAmong}
use Rattle.path_costs.specs.Costs.{is_cost}
use Rattle.rule_buckets.specs.Entries.{is_match, entry_of}
use Rattle.rule_buckets.specs.Listed.{left_from, AreListed}
use Rattle.rule_buckets.specs.Rules.{AreLevels, AreTheirs, IsCount, is_keyed, is_listed, is_path}
use Rattle.rule_buckets.proofs.Levels.{any-level}
use Rattle.rule_buckets.proofs.Listing.{has-left}

module _ (levels sets : List SetView) (universe : List ℕ)
    (are : map (λ (s : SetView). s.ids) sets ≡ map (λ (s : SetView). intersection s.ids universe) levels) where
  pub within-count : length sets ≡ length levels
  within-count = sym (length-map sets (λ (s : SetView). s.ids)) ∙ ap length are ∙ length-map levels (λ (s : SetView). intersection s.ids universe)

  pub within-theirs : (rows : ℕ → RowsView) (graph : GraphView) (matching : List ℕ) → AreLevels rows graph matching levels → AreTheirs rows graph sets
  within-theirs rows graph matching is = λ k set f d h.
      by k d set h (slice_get levels k) refl
      (sym (slice_get-map (λ (s : SetView). intersection s.ids universe) levels k) ∙ ap (λ l. slice_get l k) (sym are) ∙ slice_get-map (λ (s : SetView). s.ids) sets k ∙ ap (option_map (λ (s : SetView). s.ids)) f)
    where
      left : (a b : Bool) → (a && b) ≡ true → a ≡ true
      left true b h = refl
      left false b h = absurd (cc)

      right : (a b : Bool) → (a && b) ≡ true → b ≡ true
      right true b h = h
      right false b h = absurd (cc)

      by : (k d : ℕ) (set : SetView) → has set.ids d ≡ true → (o : Option SetView) → slice_get levels k ≡ o
          → option_map (λ (s : SetView). intersection s.ids universe) o ≡ Some set.ids → is_cost k (cost_of (rows d).places graph.levels) ≡ true
      by k d set h None e f = absurd (cc)
      by k d set h (Some own) e f =
          let same : intersection own.ids universe ≡ set.ids = cc in
          let both = sym (has-filter (λ x. has universe x) own.ids d) ∙ ap (λ l. has l d) same ∙ h in
          right (has matching d) (is_cost k (cost_of (rows d).places graph.levels)) (sym (is.each k own e d) ∙ left (has own.ids d) (has universe d) both)

  pub within-all : (rows : ℕ → RowsView) (graph : GraphView) (matching : List ℕ) → AreLevels rows graph matching levels
      → ((d : ℕ) → has matching d ≡ true → is_match (rows d) graph ≡ true) → AreAmong (has matching) universe → IsIncreasing universe
      → left_from 0 sets ≡ universe
  within-all rows graph matching is known among inc = increasing-same (left_from 0 sets) universe (increasing-or_all (map (λ (s : SetView). s.ids) sets)) inc (λ d.
      has-left 0 sets d ∙ sym (list_any-map (λ xs. has xs d) (λ (s : SetView). s.ids) sets) ∙ ap (list_any (λ xs. has xs d)) are
      ∙ list_any-map (λ xs. has xs d) (λ (s : SetView). intersection s.ids universe) levels
      ∙ list_any-same _ _ (λ (s : SetView). has-filter (λ x. has universe x) s.ids d ∙ turned (has s.ids d) (has universe d)) levels
      ∙ list_any-and (has universe d) (λ (s : SetView). has s.ids d) levels
      ∙ ap (λ b. has universe d && b) (any-level rows graph matching levels is d)
      ∙ all d (has universe d) refl)
    where
      turned : (a b : Bool) → (a && b) ≡ (b && a)
      turned true true = refl
      turned true false = refl
      turned false true = refl
      turned false false = refl

      all : (d : ℕ) (b : Bool) → has universe d ≡ b → (b && (has matching d && is_match (rows d) graph)) ≡ b
      all d true h = let m = among d h in rw (m, known d m) refl
      all d false h = refl

  -- of some of the documents that match
  pub within-levels : (rows : ℕ → RowsView) (graph : GraphView) (matching : List ℕ) → AreLevels rows graph matching levels
      → AreAmong (has matching) universe → AreLevels rows graph universe sets
  within-levels rows graph matching is among = record {
    each = λ k set f d. by k d set (slice_get levels k) refl
        (sym (slice_get-map (λ (s : SetView). intersection s.ids universe) levels k) ∙ ap (λ l. slice_get l k) (sym are) ∙ slice_get-map (λ (s : SetView). s.ids) sets k ∙ ap (option_map (λ (s : SetView). s.ids)) f);
    count = subst (IsCount graph.levels) (sym within-count) is.count;
  }
    where
      inside : (u m b : Bool) → (u ≡ true → m ≡ true) → ((m && b) && u) ≡ (u && b)
      inside true true true h = refl
      inside true true false h = refl
      inside true false b h = absurd (let no : false ≡ true = h refl in cc)
      inside false true true h = refl
      inside false true false h = refl
      inside false false b h = refl

      by : (k d : ℕ) (set : SetView) (o : Option SetView) → slice_get levels k ≡ o
          → option_map (λ (s : SetView). intersection s.ids universe) o ≡ Some set.ids
          → has set.ids d ≡ (has universe d && is_cost k (cost_of (rows d).places graph.levels))
      by k d set None e f = absurd (cc)
      by k d set (Some own) e f =
          let same : intersection own.ids universe ≡ set.ids = cc in
          ap (λ l. has l d) (sym same) ∙ has-filter (λ x. has universe x) own.ids d
          ∙ ap (λ b. b && has universe d) (is.each k own e d)
          ∙ inside (has universe d) (has matching d) (is_cost k (cost_of (rows d).places graph.levels)) (among d)

-- where the query has no level, or by the rule on words, the level that matches first is the entry
pub listed-entries : (rows : ℕ → RowsView) (graph : GraphView) (rule : Rule) (sets : List SetView) → IsGraph graph
    → is_keyed graph.levels rule ≡ false → (graph.levels ≡ []) ⊎ (rule ≡ Words) → AreTheirs rows graph sets → IsCount graph.levels (length sets)
    → AreListed (λ d. entry_of (rows d) graph rule) sets
listed-entries rows graph rule sets is keyed either theirs count = record {
  each = λ k d set f h. by either k d (cost_of (rows d).places graph.levels) refl (theirs k set f d h);
  few = small graph.levels is.few count;
}
  where
    small : (lvs : List LevelView) → length lvs ≤ 10 → IsCount lvs (length sets) → length sets < 2 ^ 32
    small [] few c = omega (arith, c)
    small (l ∷ ls) few c = omega (arith, c, few)

    query-rule : (r : Rule) (lvs : List LevelView) → is_keyed lvs r ≡ false → is_query_rule r ≡ true
    query-rule Words lvs e = refl
    query-rule Proximity lvs e = refl
    query-rule Field lvs e = refl
    query-rule Position lvs e = refl
    query-rule Whole lvs e = refl
    query-rule Inexact lvs e = refl
    query-rule (Up p) [] e = absurd (cc)
    query-rule (Up p) (l ∷ ls) e = absurd (cc)
    query-rule (Down p) [] e = absurd (cc)
    query-rule (Down p) (l ∷ ls) e = absurd (cc)

    zero-cost : (lvs : List LevelView) (d k : ℕ) → lvs ≡ [] → cost_of (rows d).places lvs ≡ Some k → k ≡ 0
    zero-cost [] d k e f = cc
    zero-cost (l ∷ ls) d k e f = absurd (cc)

    by : (graph.levels ≡ []) ⊎ (rule ≡ Words) → (k d : ℕ) (o : Option ℕ) → cost_of (rows d).places graph.levels ≡ o → is_cost k o ≡ true
        → entry (rows d) graph (unwrap_or (cost_of (rows d).places graph.levels) (length graph.levels)) rule ≡ Number k
    by e k d None f h = absurd (cc)
    by (inl none) k d (Some n) f h =
        let same : n ≡ k = grind arith in
        let z : n ≡ 0 = zero-cost graph.levels d n none f in
        ap (λ o. entry (rows d) graph (unwrap_or o (length graph.levels)) rule) f ∙ ap (λ m. entry (rows d) graph m rule) z
        ∙ entry-empty (rows d) graph none rule (query-rule rule graph.levels keyed) ∙ ap (λ m. Number m) (sym z ∙ same)
    by (inr words) k d (Some n) f h =
        let same : n ≡ k = grind arith in
        ap (λ r. entry (rows d) graph (unwrap_or (cost_of (rows d).places graph.levels) (length graph.levels)) r) words
        ∙ ap (λ o. Number (unwrap_or o (length graph.levels))) f ∙ ap (λ m. Number m) same

-- why a rule is listed
pub why-listed : (lvs : List LevelView) (rule : Rule) → is_listed lvs rule ≡ true → (lvs ≡ []) ⊎ (rule ≡ Words)
why-listed [] rule e = inl refl
why-listed (l ∷ ls) Words e = inr refl
why-listed (l ∷ ls) Proximity e = absurd (cc)
why-listed (l ∷ ls) Field e = absurd (cc)
why-listed (l ∷ ls) Position e = absurd (cc)
why-listed (l ∷ ls) Whole e = absurd (cc)
why-listed (l ∷ ls) Inexact e = absurd (cc)
why-listed (l ∷ ls) (Up p) e = absurd (cc)
why-listed (l ∷ ls) (Down p) e = absurd (cc)

-- the other rules that are not known by key have a least sum
pub path-rule : (lvs : List LevelView) (rule : Rule) → is_keyed lvs rule ≡ false → is_listed lvs rule ≡ false → is_path rule ≡ true
path-rule [] rule e f = absurd (cc)
path-rule (l ∷ ls) Words e f = absurd (cc)
path-rule (l ∷ ls) Proximity e f = refl
path-rule (l ∷ ls) Field e f = refl
path-rule (l ∷ ls) Position e f = refl
path-rule (l ∷ ls) Whole e f = absurd (cc)
path-rule (l ∷ ls) Inexact e f = refl
path-rule (l ∷ ls) (Up p) e f = absurd (cc)
path-rule (l ∷ ls) (Down p) e f = absurd (cc)

-- as many sets as levels, where there is one
pub path-count : (lvs : List LevelView) (rule : Rule) (n : ℕ) → is_listed lvs rule ≡ false → IsCount lvs n → n ≡ length lvs
path-count [] rule n e c = absurd (cc)
path-count (l ∷ ls) rule n e c = c

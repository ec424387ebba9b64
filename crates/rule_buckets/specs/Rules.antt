-- What contracts see of rules over an index.
use Rattle.std.specs.Prelude.{ℕ, ◌≡◌, ◌≤◌, Bool, ◌&&◌, true, false, List, [], ◌∷◌, length, slice_get, Some}
use Rattle.search_base.specs.declared.rule.Rule.{Rule}
use Rattle.search_base.specs.declared.rule.Rule.TheVariants.{Words, Proximity, Field, Position, Whole, Inexact, Up, Down}
use Rattle.search_base.specs.GraphView.{GraphView, LevelView}
use Rattle.search_base.specs.RowsView.{RowsView}
use Rattle.search_base.specs.Tuple.{cost_of}
use Rattle.doc_sets.specs.Sets.{has}
use Rattle.doc_sets.specs.SetView.{SetView}
use Rattle.path_costs.specs.Costs.{is_cost}

-- the index, the query, the rules, and the documents of the universe that the query matches
pub record RulesView (S : Type 0) : Type 0 where
  pub source : S
  pub graph : GraphView
  pub rules : List Rule
  pub matching : List ℕ

-- as many as there are levels, and one where there is none
abbrev pub IsCount : List LevelView → ℕ → Type 0
IsCount [] n = n ≡ 1
IsCount (level ∷ levels) n = n ≡ length (level ∷ levels)

-- of each level the documents of the universe that it matches first
pub record AreLevels (rows : ℕ → RowsView) (graph : GraphView) (universe : List ℕ) (levels : List SetView) : Type 0 where
  pub each : (k : ℕ) (set : SetView) → slice_get levels k ≡ Some set → (d : ℕ)
      → has set.ids d ≡ (has universe d && is_cost k (cost_of (rows d).places graph.levels))
  pub count : IsCount graph.levels (length levels)

-- the same of several levels, and no set where there is one at most
abbrev pub AreLevelsOrOne : (ℕ → RowsView) → GraphView → List ℕ → List SetView → Type 0
AreLevelsOrOne rows graph matching [] = length graph.levels ≤ 1
AreLevelsOrOne rows graph matching (set ∷ sets) = AreLevels rows graph matching (set ∷ sets)

-- the documents at a place are matched first by the level of that number
abbrev pub AreTheirs : (ℕ → RowsView) → GraphView → List SetView → Type 0
AreTheirs rows graph levels = (k : ℕ) (set : SetView) → slice_get levels k ≡ Some set → (d : ℕ) → has set.ids d ≡ true
    → is_cost k (cost_of (rows d).places graph.levels) ≡ true

-- the rule gives entries that are known by key
abbrev pub is_keyed : List LevelView → Rule → Bool
is_keyed levels (Up path) = true
is_keyed levels (Down path) = true
is_keyed [] rule = false
is_keyed (level ∷ levels) Whole = true
is_keyed (level ∷ levels) _ = false

-- the rule gives a cost that is a least sum over readings
abbrev pub is_path : Rule → Bool
is_path Proximity = true
is_path Field = true
is_path Position = true
is_path Inexact = true
is_path _ = false

-- the level that matches first is the entry, by the rule on words or where the query has no level
abbrev pub is_listed : List LevelView → Rule → Bool
is_listed [] rule = true
is_listed (level ∷ levels) Words = true
is_listed (level ∷ levels) _ = false

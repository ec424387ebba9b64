-- The costs by a graph are those by its readings.
use Rattle.std.proofs.Common.{◌≡◌, ◌∙◌, ℕ, zero, suc, ◌+◌, cond, List, [], ◌∷◌, map, Option, None, Some, unwrap_or, refl, ap}
use Rattle.std.specs.Option.{option_map}
use Rattle.search_base.specs.declared.cost_key.CostKey.TheVariants as cost
use Rattle.search_base.specs.declared.document.Place.{Place}
use Rattle.search_base.specs.declared.rule.Rule.{Rule}
use Rattle.search_base.specs.declared.rule.Rule.TheVariants.{Words, Proximity, Field, Position, Whole, Inexact, Up, Down}
use Rattle.search_base.specs.GraphView.{LevelView, GraphView}
use Rattle.search_base.specs.Query.{Query, query_of, least_over, first_match, cost_under, sum_under, whole_under, entry_under, tuple_under}
use Rattle.search_base.specs.Readings.{readings}
use Rattle.search_base.specs.RowsView.{RowsView}
use Rattle.search_base.specs.Sums.{least_cost}
use Rattle.search_base.specs.Tuple.{cost_of, path_cost, whole_of, entry, tuple}
use Rattle.search_base.specs.WordsCost.{level_matches, words_cost_from}

first_same : (j : ℕ) (places : List Place) (levels : List LevelView) → words_cost_from j places levels ≡ first_match j places (map readings levels)
first_same j places [] = refl
first_same j places (level ∷ levels) = ap (λ (found : Option ℕ). cond (level_matches places level) (Some j) found) (first_same (j + 1) places levels)

cost_same : (places : List Place) (levels : List LevelView) → cost_of places levels ≡ cost_under places (map readings levels)
cost_same places [] = refl
cost_same places (level ∷ levels) = first_same 0 places (level ∷ levels)

least_same : (rule : Rule) (places : List Place) (level : LevelView) → least_cost rule places level ≡ least_over rule places (readings level)
unfolding least_cost
least_same rule places level = refl

sum_same : (rule : Rule) (places : List Place) (levels : List LevelView) (n : ℕ) → path_cost rule places levels n ≡ sum_under rule places (map readings levels) n
sum_same rule places [] n = refl
sum_same rule places (level ∷ levels) zero = ap (λ (sum : Option ℕ). unwrap_or sum 0) (least_same rule places level)
sum_same rule places (level ∷ levels) (suc n) = sum_same rule places levels n

whole_same : (places : List Place) (levels : List LevelView) (words : List (List ℕ)) → whole_of places levels words ≡ whole_under places (map readings levels) words
whole_same places [] words = refl
whole_same places (level ∷ levels) words = refl

entry_same : (rows : RowsView) (graph : GraphView) (n : ℕ) (rule : Rule) → entry rows graph n rule ≡ entry_under rows (query_of graph) n rule
entry_same rows graph n Words = refl
entry_same rows graph n Proximity = ap cost.Number (sum_same Proximity rows.places graph.levels n)
entry_same rows graph n Field = ap cost.Number (sum_same Field rows.places graph.levels n)
entry_same rows graph n Position = ap cost.Number (sum_same Position rows.places graph.levels n)
entry_same rows graph n Whole = ap cost.Number (whole_same rows.places graph.levels graph.whole)
entry_same rows graph n Inexact = ap cost.Number (sum_same Inexact rows.places graph.levels n)
entry_same rows graph n (Up path) = refl
entry_same rows graph n (Down path) = refl

map_same : {X Y : Type 0} (f g : X → Y) → ((x : X) → f x ≡ g x) → (xs : List X) → map f xs ≡ map g xs
map_same f g same [] = refl
map_same f g same (x ∷ xs) = let first = same x in let rest = map_same f g same xs in cc

option_same : {X Y : Type 0} (f g : X → Y) → ((x : X) → f x ≡ g x) → (o : Option X) → option_map f o ≡ option_map g o
option_same f g same None = refl
option_same f g same (Some x) = ap Some (same x)

tuple_same : (rows : RowsView) (graph : GraphView) (rules : List Rule) → tuple rows graph rules ≡ tuple_under rows (query_of graph) rules
tuple_same rows graph rules =
    ap (option_map (λ n. map (entry rows graph n) rules)) (cost_same rows.places graph.levels)
    ∙ option_same _ _ (λ n. map_same _ _ (entry_same rows graph n) rules) (cost_under rows.places (map readings graph.levels))

pub built_costs : (rows : RowsView) (rules : List Rule) (query : Query) (levels : List LevelView) (whole : List (List ℕ)) → map readings levels ≡ query.levels → whole ≡ query.whole
    → tuple rows (record { levels = levels; whole = whole }) rules ≡ tuple_under rows query rules
built_costs rows rules query levels whole reads words =
    tuple_same rows (record { levels = levels; whole = whole }) rules
    ∙ ap (λ all. tuple_under rows (record { levels = all; whole = whole }) rules) reads
    ∙ ap (λ all. tuple_under rows (record { levels = query.levels; whole = all }) rules) words

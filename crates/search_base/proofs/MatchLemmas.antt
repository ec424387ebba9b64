-- There is a least sum exactly where a reading matches.
use Rattle.std.proofs.Common.{◌≡◌, ℕ, Bool, true, false, ◌||◌, cond, List, [], ◌∷◌, map, filter, Option, Some, None, is_some, refl, arith}
use Rattle.std.specs.List.{list_any}
use Rattle.std.specs.Option.{IfSome}
use Rattle.search_base.specs.declared.document.Place.{Place}
use Rattle.search_base.specs.declared.query.Block.{Block}
use Rattle.search_base.specs.declared.rule.Rule.{Rule}
use Rattle.search_base.specs.declared.rule.Rule.TheVariants.{Words}
use Rattle.search_base.specs.GraphView.{LevelView}
use Rattle.search_base.specs.Least.{lesser, least}
use Rattle.search_base.specs.Occurrence.{matches}
use Rattle.search_base.specs.Query.{any_matches, least_over}
use Rattle.search_base.specs.Readings.{readings}
use Rattle.search_base.specs.Sums.{reading_cost, least_cost}
use Rattle.search_base.specs.WordsCost.{level_matches}

some-left : (n : ℕ) (o : Option ℕ) → is_some (lesser (Some n) o) ≡ true
some-left n None = refl
some-left n (Some m) = refl

some-any : {X : Type 0} (f : X → ℕ) (test : X → Bool) (xs : List X) → is_some (least (map f (filter test xs))) ≡ list_any test xs
some-any f test [] = refl
some-any f test (x ∷ xs) = cases (some-any f test xs) (test x)
  where
    cases : is_some (least (map f (filter test xs))) ≡ list_any test xs → (b : Bool) → is_some (least (map f (cond b (x ∷ filter test xs) (filter test xs)))) ≡ (b || list_any test xs)
    cases rest true = some-left (f x) (least (map f (filter test xs)))
    cases rest false = rest

pub some-cost : (rule : Rule) (places : List Place) (level : LevelView) → is_some (least_cost rule places level) ≡ level_matches places level
unfolding least_cost
some-cost rule places level = some-any (reading_cost rule places) (matches places) (readings level)

no-words : (places : List Place) (reading : List Block) → reading_cost Words places reading ≡ 0
no-words places [] = refl
no-words places (b ∷ []) = refl
no-words places (b ∷ (c ∷ reading)) = omega (arith, no-words places (c ∷ reading))

least-none : {X : Type 0} (f : X → ℕ) → ((x : X) → f x ≡ 0) → (xs : List X) → IfSome (least (map f xs)) (λ n. n ≡ 0)
least-none f none [] = tt
least-none f none (x ∷ xs) = join (least (map f xs)) (least-none f none xs)
  where
    join : (o : Option ℕ) → IfSome o (λ n. n ≡ 0) → IfSome (lesser (Some (f x)) o) (λ n. n ≡ 0)
    join None h = none x
    join (Some m) h = let first = none x in omega arith

pub words-cost_nothing : (places : List Place) (level : LevelView) → IfSome (least_cost Words places level) (λ n. n ≡ 0)
unfolding least_cost
words-cost_nothing places level = least-none (reading_cost Words places) (no-words places) (filter (matches places) (readings level))

-- the same of any readings
pub some-over : (rule : Rule) (places : List Place) (all : List (List Block)) → is_some (least_over rule places all) ≡ any_matches places all
some-over rule places all = some-any (reading_cost rule places) (matches places) all

pub words-over_nothing : (places : List Place) (all : List (List Block)) → IfSome (least_over Words places all) (λ n. n ≡ 0)
words-over_nothing places all = least-none (reading_cost Words places) (no-words places) (filter (matches places) all)

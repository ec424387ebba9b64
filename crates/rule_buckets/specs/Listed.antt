-- Documents that stand in a list by their entry.
use Rattle.std.specs.Prelude.{ℕ, ◌≡◌, ◌<◌, ◌^◌, true, List, length, map, drop, slice_get, Some}
use Rattle.search_base.specs.declared.cost_key.CostKey.{CostKey}
use Rattle.search_base.specs.declared.cost_key.CostKey.TheVariants.{Number}
use Rattle.doc_sets.specs.Sets.{has, union_all}
use Rattle.doc_sets.specs.SetView.{SetView}

-- the documents of the sets from a place on
abbrev pub left_from : ℕ → List SetView → List ℕ
left_from at sets = union_all (map (λ set. set.ids) (drop at sets))

-- the documents of each set have its place as their entry
pub record AreListed (entry : ℕ → CostKey) (sets : List SetView) : Type 0 where
  pub each : (k d : ℕ) (set : SetView) → slice_get sets k ≡ Some set → has set.ids d ≡ true → entry d ≡ Number k
  pub few : length sets < 2 ^ 32

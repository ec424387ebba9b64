-- Values grouped by path.
use Rattle.std.specs.Prelude.{ℕ, List, [], Vec}
use Rattle.std.specs.Option.{option_map_or}
use Rattle.std.specs.BTreeMap.{BTreeMap, get}
use Rattle.std.specs.Cmp.Lexicographic.{slice_cmp}
use Rattle.std.specs.Ordering.{nat_cmp}
use Rattle.doc_values.specs.declared.rows.Flat.{Flat}

-- the values of a path: none where the map does not have it
abbrev pub values_at : {A : Type 0} → BTreeMap (List ℕ) (Vec Flat A) → List ℕ → List Flat
values_at values path = option_map_or (λ list. list.items) (get (slice_cmp nat_cmp) values path) []
